-- A reader's answer rests on what it passed over and the lexeme behind that.
use Rattle.std.proofs.Common.{◌≡◌, List, [], ◌∷◌, ◌++◌, refl, ap, sym, ◌∙◌, subst}
use Rattle.std.proofs.lemmas.List.{append_assoc}
use Rattle.texts.specs.Lexemes.{Lexeme}
use Rattle.parser.specs.Reader.{Reader, Gives, Fails, Looks, Passes, Then, Attempt, Took, Refused, carry, front, behind, run}
use Rattle.texts.specs.ParseFaults.{ParseFault}
use Rattle.parser.specs.Kernels.{kernel_reader}
use Rattle.parser.specs.Fronts.{Before, before, rest_of, Rests}

-- where nothing is left, nothing comes
none-comes : {A : Type 0} (reader : Reader A) → rest_of (run reader []) ≡ []
none-comes (Gives a) = refl
none-comes (Fails fault) = refl
none-comes (Looks at) = none-comes (at (front []))
none-comes (Passes after) = none-comes after
none-comes (Then first next) = carried next (run first []) (none-comes first) (λ a. none-comes (next a))
  where
    carried : {A B : Type 0} (next : A → Reader B) (o : Attempt A) → rest_of o ≡ [] → ((a : A) → rest_of (run (next a) []) ≡ []) → rest_of (carry o (λ a rest. run (next a) rest)) ≡ []
    carried next (Took a rest) e h = ap (λ rest. rest_of (run (next a) rest)) e ∙ h a
    carried next (Refused fault rest) e h = e

at-end : {A : Type 0} (reader : Reader A) (ts : List Lexeme) (o : Attempt A) (rest : List Lexeme) → rest ≡ [] → Rests reader ts o rest
at-end reader ts o rest e = subst (Rests reader ts o) (sym e) tt

-- the first of what is read, and what stands behind it
first-is : (t u : Lexeme) (ts tail front' : List Lexeme) → t ∷ ts ≡ front' ++ u ∷ tail → (others : List Lexeme) → front (front' ++ u ∷ others) ≡ t
first-is t u ts tail [] e others = sym (ap front e)
first-is t u ts tail (x ∷ xs) e others = sym (ap front e)

looked : {A : Type 0} (at : Lexeme → Reader A) (t : Lexeme) (ts : List Lexeme) (o : Attempt A) (rest : List Lexeme) → Rests (at t) (t ∷ ts) o rest → Rests (Looks at) (t ∷ ts) o rest
looked at t ts o [] h = tt
looked at t ts o (u ∷ tail) (before front' e again) = before front' e (λ others. ap (λ x. run (at x) (front' ++ u ∷ others)) (first-is t u ts tail front' e others) ∙ again others)

passed : {A : Type 0} (after : Reader A) (t : Lexeme) (ts : List Lexeme) (o : Attempt A) (rest : List Lexeme) → Rests after ts o rest → Rests (Passes after) (t ∷ ts) o rest
passed after t ts o [] h = tt
passed after t ts o (u ∷ tail) (before front' e again) = before (t ∷ front') (ap (λ l. t ∷ l) e) again

-- a front that begins as what it is the front of
begins : (t u : Lexeme) (ts tail front' : List Lexeme) → t ∷ ts ≡ front' ++ u ∷ tail → (others : List Lexeme) → front' ++ u ∷ others ≡ t ∷ behind (front' ++ u ∷ others)
begins t u ts tail [] e others = ap (λ x. x ∷ others) (sym (ap front e))
begins t u ts tail (x ∷ xs) e others = ap (λ y. y ∷ (xs ++ u ∷ others)) (sym (ap front e))

next-rests : {A B : Type 0} (first : Reader A) (next : A → Reader B) (a : A) (ts : List Lexeme) (t : Lexeme) (left : List Lexeme) (o : Attempt B) (rest : List Lexeme) → Rests first ts (Took a (t ∷ left)) (t ∷ left) → Rests (next a) (t ∷ left) o rest → Rests (Then first next) ts o rest
next-rests first next a ts t left o [] h k = tt
next-rests first next a ts t left o (u ∷ tail) (before front1 e1 again1) (before front2 e2 again2) =
    before (front1 ++ front2) (e1 ∙ ap (λ l. front1 ++ l) e2 ∙ sym (append_assoc front1 front2 (u ∷ tail))) (λ others.
    ap (run (Then first next)) (append_assoc front1 front2 (u ∷ others) ∙ ap (λ l. front1 ++ l) (begins t u left tail front2 e2 others))
    ∙ ap (λ o. carry o (λ a rest. run (next a) rest)) (again1 (behind (front2 ++ u ∷ others)))
    ∙ ap (run (next a)) (sym (begins t u left tail front2 e2 others)) ∙ again2 others)

refused-rests : {A B : Type 0} (first : Reader A) (next : A → Reader B) (ts : List Lexeme) (fault : ParseFault) (rest : List Lexeme) → Rests first ts (Refused fault rest) rest → Rests (Then first next) ts (Refused fault rest) rest
refused-rests first next ts fault [] h = tt
refused-rests first next ts fault (u ∷ tail) (before front' e again) = before front' e (λ others. ap (λ o. carry o (λ a rest. run (next a) rest)) (again others))

then-rests : {A B : Type 0} (first : Reader A) (next : A → Reader B) (ts : List Lexeme) (o : Attempt A) → Rests first ts o (rest_of o) → ((a : A) (ts : List Lexeme) → Rests (next a) ts (run (next a) ts) (rest_of (run (next a) ts))) → Rests (Then first next) ts (carry o (λ a rest. run (next a) rest)) (rest_of (carry o (λ a rest. run (next a) rest)))
then-rests first next ts (Refused fault rest) h k = refused-rests first next ts fault rest h
then-rests first next ts (Took a []) h k = at-end (Then first next) ts (run (next a) []) (rest_of (run (next a) [])) (none-comes (next a))
then-rests first next ts (Took a (t ∷ left)) h k = next-rests first next a ts t left (run (next a) (t ∷ left)) (rest_of (run (next a) (t ∷ left))) h (k a (t ∷ left))

pub rests : {A : Type 0} (reader : Reader A) (ts : List Lexeme) → Rests reader ts (run reader ts) (rest_of (run reader ts))
rests (Gives a) [] = tt
rests (Gives a) (t ∷ ts) = before [] refl (λ others. refl)
rests (Fails fault) [] = tt
rests (Fails fault) (t ∷ ts) = before [] refl (λ others. refl)
rests (Looks at) [] = at-end (Looks at) [] (run (Looks at) []) (rest_of (run (Looks at) [])) (none-comes (Looks at))
rests (Looks at) (t ∷ ts) = looked at t ts (run (at t) (t ∷ ts)) (rest_of (run (at t) (t ∷ ts))) (rests (at t) (t ∷ ts))
rests (Passes after) [] = at-end (Passes after) [] (run (Passes after) []) (rest_of (run (Passes after) [])) (none-comes (Passes after))
rests (Passes after) (t ∷ ts) = passed after t ts (run after ts) (rest_of (run after ts)) (rests after ts)
rests (Then first next) ts = then-rests first next ts (run first ts) (rests first ts) (λ a. rests (next a))

pub refused_there : (ts : List Lexeme) (fault : ParseFault) (t : Lexeme) (tail : List Lexeme) → run kernel_reader ts ≡ Refused fault (t ∷ tail) → Before ts (t ∷ tail) (λ front. (others : List Lexeme) → run kernel_reader (front ++ t ∷ others) ≡ Refused fault (t ∷ others))
refused_there ts fault t tail e = subst (λ o. Rests kernel_reader ts o (rest_of o)) e (rests kernel_reader ts)
