-- What is read of statements is in the grammar, with no more than 512 of them and arrays of a fair length.
use Rattle.std.proofs.Common.{◌≡◌, ◌≤◌, ◌≢◌, not, [], ℕ, zero, suc, ◌+◌, true, false, nat_lt, Option, Some, None, List, ◌∷◌, refl, ap, sym, ◌∙◌, subst, arith}
use Rattle.std.specs.Prelude.{codes, bytes_eq}
use Rattle.std.proofs.lemmas.Bool.{false≢true, ltb-false}
use Rattle.std.proofs.lemmas.Slice.Eq.{bytes_eq-Decides}
use Rattle.semantics.specs.Word.{Kind}
use Rattle.semantics.specs.Core.{Site}
use Rattle.texts.specs.Signs as signs
use Rattle.texts.specs.Reserved as words
use Rattle.texts.specs.Reserved.{Reserved}
use Rattle.texts.specs.Tokens as token
use Rattle.texts.specs.Tokens.{TokenKind}
use Rattle.texts.specs.Lexemes.{Lexeme, mark, word, name, number, jump_of}
use Rattle.texts.specs.ParseFaults.{Expected, TooDeep, TooMany}
use Rattle.texts.specs.Surface.{Expression, Assignment, JumpWord, Return, Break, Continue, Statement, Declare, DeclareArray, Assign, If, While, For, Barrier, Jump, Block, Statements, none, one}
use Rattle.texts.specs.KernelLimits.{ArraysFit, AllArraysFit}
use Rattle.texts.specs.KernelGrammar as rules
use Rattle.texts.specs.KernelGrammar.{IsAssignment, IsDeclaration, IsStatement, IsBody, IsItems, IsItem, is_else, no_else, is_block}
use Rattle.parser.specs.Reader.{Reader, Gives, Fails, Looks, Passes, Then, Took, front, behind, run}
use Rattle.parser.specs.Expressions.{is_left_bracket, is_right_bracket, expects, kind_at}
use Rattle.parser.specs.Statements.{is_semicolon, is_left_brace, is_right_brace, is_local, bracket, block_reader, tested, Head, head_reader, assignment_reader, declaration_reader, items, most_items, else_reader, named, jump_reader, statement_by, counted, length_reader, array_reader, item_by, body_by, levels}
use Rattle.parser.specs.Kernels.{is_end}
use Rattle.parser.proofs.Inversion.{not-taken, on-test, front-is, same-value, same-rest}
use Rattle.parser.proofs.Marks.{left_bracket}
use Rattle.parser.proofs.Taking.{taking, settled, within, opened-then, a-name, TypeWord, type_word, a-type}
use Rattle.parser.proofs.Due.{semicolon_due, right_bracket_due, left_brace, right_brace, local_stands, else_stands}
use Rattle.parser.proofs.SoundParts.{Tested, tests, tested-sound, Heads, heads, head-sound, assignment-sound, declaration-sound, has_number, ALength, a_length, length-sound}

-- what is read, with the limits that were tested
abbrev pub StatementRead : (room n : ℕ) → List Lexeme → Statement × ℕ → List Lexeme → Type 0
StatementRead room n ts s rest = IsStatement room n ts s.0 s.1 rest × (s.1 ≤ 513) × ArraysFit s.0

abbrev pub ItemRead : (room n : ℕ) → List Lexeme → Statement × ℕ → List Lexeme → Type 0
ItemRead room n ts s rest = IsItem room n ts s.0 s.1 rest × (s.1 ≤ 513) × ArraysFit s.0

abbrev pub BodyRead : (room n : ℕ) → List Lexeme → Statements × ℕ → List Lexeme → Type 0
BodyRead room n ts ss rest = IsBody room n ts ss.0 ss.1 rest × (ss.1 ≤ 513) × AllArraysFit ss.0

abbrev pub ItemsRead : (room n : ℕ) → List Lexeme → Statements × ℕ → List Lexeme → Type 0
ItemsRead room n ts ss rest = IsItems room n ts ss.0 ss.1 rest × (ss.1 ≤ 513) × AllArraysFit ss.0

abbrev pub Reads : {A : Type 0} → (List Lexeme → A → List Lexeme → Type 0) → Reader A → Type 0
Reads {A = A} holds reader = (ts rest : List Lexeme) (a : A) → run reader ts ≡ Took a rest → holds ts a rest

abbrev pub StatementsSound : ((room n : ℕ) → Reader (Statement × ℕ)) → Type 0
StatementsSound statement = (room n : ℕ) → Reads (StatementRead room n) (statement room n)

abbrev pub BodiesSound : ((room n : ℕ) → Reader (Statements × ℕ)) → Type 0
BodiesSound body = (room n : ℕ) → n ≤ 513 → Reads (BodyRead room n) (body room n)

abbrev pub BlocksSound : ((room n : ℕ) → Reader (Statements × ℕ)) → Type 0
BlocksSound block = (room n : ℕ) → n ≤ 513 → Reads (ItemsRead room n) (block room n)

-- statement after statement up to the brace
items-sound : (room : ℕ) (item : ℕ → Reader (Statement × ℕ)) → ((n : ℕ) → Reads (ItemRead room n) (item n)) → (left n : ℕ) → n ≤ 513 → Reads (ItemsRead room n) (items item left n)
unfolding items
items-sound room item sound zero n le ts rest ss k = absurd (not-taken TooMany ts rest ss k)
items-sound room item sound (suc left) n le ts rest ss k =
    let others : Reader (Statements × ℕ) = Then (item n) (λ s. Then (items item left s.1) (λ ss. Gives (one s.0 ss.0, ss.1))) in
    on-test (is_right_brace (front ts).kind) (Passes (Gives (none, n))) others ts rest ss k
    (λ due k. settled (ItemsRead room n ts) ss (none, n) (behind ts) rest (same-value (none, n) ss (behind ts) rest k, same-rest (none, n) ss (behind ts) rest k)
    (subst (λ l. IsItems room n l none n (behind ts)) (sym (right_brace ts due)) (rules.end (front ts).site), le, tt))
    (λ other k. let w = taking others ts rest ss k in
    let h = sound n ts w.1 w.0 w.2 in
    let i = w.3 in
    let hs = items-sound room item sound left w.0.1 h.1 w.1 i.1 i.0 i.2 in
    settled (ItemsRead room n ts) ss (one w.0.0 i.0.0, i.0.1) i.1 rest i.3 (rules.item h.0 hs.0, hs.1, (h.2, hs.2)))

-- what begins without a brace is no block
no-block : {room n next : ℕ} {ts rest : List Lexeme} {s : Statement} → IsStatement room n ts s next rest → is_left_brace (front ts).kind ≡ false → is_block s ≡ false
no-block (rules.assigns semicolon differs h) e = refl
no-block (rules.if_alone at opening closing h a free) e = refl
no-block (rules.if_else at opening closing other h a b) e = refl
no-block (rules.while at opening closing h a) e = refl
no-block (rules.for at opening semicolon then closing f h u a) e = refl
no-block (rules.barrier at opening closing semicolon h) e = refl
no-block (rules.jump w jump at semicolon found) e = refl
no-block (rules.block at h) e = absurd (false≢true (sym e))

body-sound : (statement : (room n : ℕ) → Reader (Statement × ℕ)) (block : (room n : ℕ) → Reader (Statements × ℕ)) → StatementsSound statement → BlocksSound block → BodiesSound (body_by statement block)
body-sound statement block sound blocks room n le ts rest ss k =
    let single : Reader (Statements × ℕ) = Then (statement room n) (λ s. Gives (one s.0 none, s.1)) in
    on-test (is_left_brace (front ts).kind) (bracket room (λ room. block room n)) single ts rest ss k
    (λ due k. within (λ room. BodyRead room n ts ss rest) room (λ room. block room n) ts rest ss k
    (λ less k. let h = blocks less n le (behind ts) rest ss k in (subst (λ l. IsBody (suc less) n l ss.0 ss.1 rest) (sym (left_brace ts due)) (rules.braces (front ts).site h.0), h.1, h.2)))
    (λ other k. let w = taking single ts rest ss k in
    let h = sound room n ts w.1 w.0 w.2 in
    settled (BodyRead room n ts) ss (one w.0.0 none, w.0.1) w.1 rest w.3 (rules.single (no-block h.0 other) h.0, h.1, (h.2, tt)))

-- with its first word in front
if-read : {room n next : ℕ} {ts us rest : List Lexeme} {e : Expression} {a : Statements} (at : Site) → Tested room ts e us → IsBody room (n + 1) us a next rest → no_else rest ≡ true → IsStatement room n (word words.If at ∷ ts) (If n at e a none) next rest
if-read at (tests opening closing h) a free = rules.if_alone at opening closing h a free

else-read : {room n middle next : ℕ} {ts us vs rest : List Lexeme} {e : Expression} {a b : Statements} (at other : Site) → Tested room ts e us → IsBody room (n + 1) us a middle (word words.Else other ∷ vs) → IsBody room middle vs b next rest → IsStatement room n (word words.If at ∷ ts) (If n at e a b) next rest
else-read at other (tests opening closing h) a b = rules.if_else at opening closing other h a b

while-read : {room n next : ℕ} {ts us rest : List Lexeme} {e : Expression} {a : Statements} (at : Site) → Tested room ts e us → IsBody room (n + 1) us a next rest → IsStatement room n (word words.While at ∷ ts) (While n at e a) next rest
while-read at (tests opening closing h) a = rules.while at opening closing h a

barrier-read : {room n : ℕ} {ts rest : List Lexeme} {e : Expression} (at semicolon : Site) → Tested room ts e (mark signs.Semicolon semicolon ∷ rest) → IsStatement room n (name (codes "barrier") at ∷ ts) (Barrier n at e) (n + 1) rest
barrier-read at semicolon (tests opening closing h) = rules.barrier at opening closing semicolon h

two-on : (n : ℕ) {room : ℕ} {ts rest : List Lexeme} {u : Assignment} → IsAssignment room (n + 1 + 1) ts u rest → IsAssignment room (n + 2) ts u rest
two-on n {room = room} {ts = ts} {rest = rest} {u = u} h = let e : n + 1 + 1 ≡ n + 2 = omega arith in subst (λ m. IsAssignment room m ts u rest) e h

for-read : (n : ℕ) {room next : ℕ} {ts us rest : List Lexeme} {h : Head} {a : Statements} (at : Site) → Heads room (n + 1) ts h us → IsBody room (n + 3) us a next rest → IsStatement room n (word words.For at ∷ ts) (For n at h.first h.test h.update a) next rest
for-read n at (heads opening semicolon then closing f e u) a = rules.for at opening semicolon then closing f e (two-on n u) a

no-else-there : (ts : List Lexeme) → is_else (front ts).kind ≡ false → no_else ts ≡ true
no-else-there [] h = refl
no-else-there (t ∷ ts) h = ap not h

-- what the first word is
pub name-of : {room n : ℕ} {ts rest : List Lexeme} {a : Assignment} → IsAssignment room n ts a rest → (front ts).kind ≡ token.Name a.name
name-of (rules.to_variable x s sign at equal found h) = refl
name-of (rules.to_element x s sign at opening closing equal found i h) = refl

bytes-of : TokenKind → List ℕ
bytes-of (token.Name x) = x
bytes-of kind = []

named-otherwise : (x y : List ℕ) (kind : TokenKind) → kind ≡ token.Name y → kind ≡ token.Name x → bytes_eq x (codes "barrier") ≡ false → y ≢ codes "barrier"
unfolding bytes-of
named-otherwise x y kind p q h e = false≢true (sym h ∙ (bytes_eq-Decides x (codes "barrier")).1 (ap bytes-of (sym q ∙ p) ∙ e))

named-sound : (room depth n : ℕ) → n ≤ 512 → (ts rest : List Lexeme) (x : List ℕ) (s : Statement × ℕ) → (front ts).kind ≡ token.Name x → run (named room depth n (front ts).site x) ts ≡ Took s rest → StatementRead room n ts s rest
unfolding named
named-sound room depth n le ts rest x s q k =
    let barriers : Reader (Statement × ℕ) = Then (tested room depth) (λ flags. Then (expects is_semicolon) (λ semicolon. Gives (Barrier n (front ts).site flags, n + 1))) in
    let assigns : Reader (Statement × ℕ) = Then (assignment_reader room depth n) (λ a. Then (expects is_semicolon) (λ semicolon. Gives (Assign a, n + 1))) in
    let next : n + 1 ≤ 513 = omega (arith, le) in
    on-test (bytes_eq x (codes "barrier")) (Passes barriers) assigns ts rest s k
    (λ h k. let w = taking barriers (behind ts) rest s k in
    let c = w.3 in
    settled (StatementRead room n ts) s (Barrier n (front ts).site w.0, n + 1) c.1 rest c.3 (
      subst (λ l. IsStatement room n l (Barrier n (front ts).site w.0) (n + 1) c.1) (sym (front-is ts (token.Name (codes "barrier")) refl (q ∙ ap token.Name ((bytes_eq-Decides x (codes "barrier")).0 h))))
          (barrier-read (front ts).site (front w.1).site (subst (Tested room (behind ts) w.0) (semicolon_due w.1 c.1 c.0 c.2) (tested-sound room depth (behind ts) w.1 w.0 w.2))),
      next,
      tt,
    ))
    (λ h k. let w = taking assigns ts rest s k in
    let c = w.3 in
    let a = assignment-sound room depth n ts w.1 w.0 w.2 in
    settled (StatementRead room n ts) s (Assign w.0, n + 1) c.1 rest c.3
    (rules.assigns (front w.1).site (named-otherwise x w.0.name (front ts).kind (name-of a) q h) (subst (IsAssignment room n ts w.0) (semicolon_due w.1 c.1 c.0 c.2) a), next, tt))

-- `if`, with what an `else` brings
choice-sound : (body : (room n : ℕ) → Reader (Statements × ℕ)) → BodiesSound body → (room n : ℕ) (at : Site) (ts us vs rest : List Lexeme) (e : Expression) (a b : Statements × ℕ) → Tested room ts e us → BodyRead room (n + 1) us a vs → run (else_reader body room a.1) vs ≡ Took b rest → StatementRead room n (word words.If at ∷ ts) (If n at e a.0 b.0, b.1) rest
choice-sound body sound room n at ts us vs rest e a b test h k =
    on-test (is_else (front vs).kind) (Passes (body room a.1)) (Gives (none, a.1)) vs rest b k
    (λ due k. let i = sound room a.1 h.1 (behind vs) rest b k in
    (else-read at (front vs).site test (subst (IsBody room (n + 1) us a.0 a.1) (else_stands vs due) h.0) i.0, i.1, (h.2, i.2)))
    (λ other k. let w = taking (Gives (none, a.1)) vs rest b k in
    settled (λ b rest. StatementRead room n (word words.If at ∷ ts) (If n at e a.0 b.0, b.1) rest) b (none, a.1) vs rest w
    (if-read at test h.0 (no-else-there vs other), h.1, (h.2, tt)))

-- moved to where its first word stands
fronted : (room n : ℕ) (ts rest : List Lexeme) (s : Statement × ℕ) (kind : TokenKind) → is_end kind ≡ false → (front ts).kind ≡ kind → StatementRead room n (record { kind = kind; site = (front ts).site } ∷ behind ts) s rest → StatementRead room n ts s rest
fronted room n ts rest s kind stays q h = subst (λ l. StatementRead room n l s rest) (sym (front-is ts kind stays q)) h

jump-sound : (room n : ℕ) → n ≤ 512 → (ts rest : List Lexeme) (s : Statement × ℕ) (w : Reserved) (jump : JumpWord) → jump_of w ≡ Some jump → (front ts).kind ≡ token.Word w → run (jump_reader n (front ts).site jump) ts ≡ Took s rest → StatementRead room n ts s rest
unfolding jump_reader
jump-sound room n le ts rest s w jump found q k =
    let c = taking (Then (expects is_semicolon) (λ semicolon. Gives (Jump n (front ts).site jump, n + 1))) (behind ts) rest s k in
    fronted room n ts rest s (token.Word w) refl q (settled (StatementRead room n (word w (front ts).site ∷ behind ts)) s (Jump n (front ts).site jump, n + 1) c.1 rest c.3 (
      subst (λ l. IsStatement room n (word w (front ts).site ∷ l) (Jump n (front ts).site jump) (n + 1) c.1) (sym (semicolon_due (behind ts) c.1 c.0 c.2))
          (rules.jump w jump (front ts).site (front (behind ts)).site found),
      omega (arith, le),
      tt,
    ))

by-word : (body block : (room n : ℕ) → Reader (Statements × ℕ)) → BodiesSound body → BlocksSound block → (room depth n : ℕ) → n ≤ 512 → (ts rest : List Lexeme) (s : Statement × ℕ) (kind : TokenKind) → (front ts).kind ≡ kind → run (statement_by body block room depth n (front ts).site kind) ts ≡ Took s rest → StatementRead room n ts s rest
by-word body block bodies blocks room depth n le ts rest s (token.Name x) q k = named-sound room depth n le ts rest x s q k
by-word body block bodies blocks room depth n le ts rest s (token.Mark signs.LeftBrace) q k =
    let inner : ℕ → Reader (Statement × ℕ) = λ room. Then (block room (n + 1)) (λ ss. Gives (Block n (front ts).site ss.0, ss.1)) in
    within (λ room. StatementRead room n ts s rest) room inner ts rest s k
    (λ less k. let w = taking (inner less) (behind ts) rest s k in
    let h = blocks less (n + 1) (omega (arith, le)) (behind ts) w.1 w.0 w.2 in
    fronted (suc less) n ts rest s (token.Mark signs.LeftBrace) refl q
    (settled (StatementRead (suc less) n (mark signs.LeftBrace (front ts).site ∷ behind ts)) s (Block n (front ts).site w.0.0, w.0.1) w.1 rest w.3 (rules.block (front ts).site h.0, h.1, h.2)))
by-word body block bodies blocks room depth n le ts rest s (token.Word words.If) q k =
    let w = taking (Then (tested room depth) (λ e. Then (body room (n + 1)) (λ a. Then (else_reader body room a.1) (λ b. Gives (If n (front ts).site e a.0 b.0, b.1))))) (behind ts) rest s k in
    let a = w.3 in
    let b = a.3 in
    fronted room n ts rest s (token.Word words.If) refl q (settled (StatementRead room n (word words.If (front ts).site ∷ behind ts)) s (If n (front ts).site w.0 a.0.0 b.0.0, b.0.1) b.1 rest b.3
    (choice-sound body bodies room n (front ts).site (behind ts) w.1 a.1 b.1 w.0 a.0 b.0 (tested-sound room depth (behind ts) w.1 w.0 w.2) (bodies room (n + 1) (omega (arith, le)) w.1 a.1 a.0 a.2) b.2))
by-word body block bodies blocks room depth n le ts rest s (token.Word words.While) q k =
    let w = taking (Then (tested room depth) (λ e. Then (body room (n + 1)) (λ b. Gives (While n (front ts).site e b.0, b.1)))) (behind ts) rest s k in
    let a = w.3 in
    let h = bodies room (n + 1) (omega (arith, le)) w.1 a.1 a.0 a.2 in
    fronted room n ts rest s (token.Word words.While) refl q (settled (StatementRead room n (word words.While (front ts).site ∷ behind ts)) s (While n (front ts).site w.0 a.0.0, a.0.1) a.1 rest a.3
    (while-read (front ts).site (tested-sound room depth (behind ts) w.1 w.0 w.2) h.0, h.1, h.2))
by-word body block bodies blocks room depth n le ts rest s (token.Word words.For) q k =
    let counts : Reader (Statement × ℕ) = Then (head_reader room depth (n + 1)) (λ h. Then (body room (n + 3)) (λ b. Gives (For n (front ts).site h.first h.test h.update b.0, b.1))) in
    on-test (nat_lt 510 n) (Fails TooMany) (Passes counts) ts rest s k
    (λ more k. absurd (not-taken TooMany ts rest s k))
    (λ few k. let w = taking counts (behind ts) rest s k in
    let a = w.3 in
    let h = bodies room (n + 3) (omega (arith, ltb-false 510 n few)) w.1 a.1 a.0 a.2 in
    fronted room n ts rest s (token.Word words.For) refl q (settled (StatementRead room n (word words.For (front ts).site ∷ behind ts)) s (For n (front ts).site w.0.first w.0.test w.0.update a.0.0, a.0.1) a.1 rest a.3
    (for-read n (front ts).site (head-sound room depth (n + 1) (behind ts) w.1 w.0 w.2) h.0, h.1, h.2)))
by-word body block bodies blocks room depth n le ts rest s (token.Word words.Return) q k = jump-sound room n le ts rest s words.Return Return refl q k
by-word body block bodies blocks room depth n le ts rest s (token.Word words.Break) q k = jump-sound room n le ts rest s words.Break Break refl q k
by-word body block bodies blocks room depth n le ts rest s (token.Word words.Continue) q k = jump-sound room n le ts rest s words.Continue Continue refl q k
by-word body block bodies blocks room depth n le ts rest s kind q k = absurd (not-taken Expected ts rest s k)

-- a local array
array-read : (room n : ℕ) (at : Site) (ts us vs middle left end rest : List Lexeme) (kind : Kind × Site) (x : List ℕ × Site) (length : ℕ) (opening closing semicolon : Site) → TypeWord ts kind.0 kind.1 us → us ≡ name x.0 x.1 ∷ vs → vs ≡ mark signs.LeftBracket opening ∷ middle → ALength middle length left → left ≡ mark signs.RightBracket closing ∷ end → end ≡ mark signs.Semicolon semicolon ∷ rest →
    IsItem (suc room) n (word words.Local at ∷ ts) (DeclareArray n at kind.0 x.1 x.0 length) (n + 1) rest × ((1 ≤ length) × (length ≤ 16384))
array-read room n at ts us vs middle left end rest kind x length opening closing semicolon (type_word w found eq) named begun (a_length (has_number l value number_there) fair) close over =
    let all : ts ≡ word w kind.1 ∷ name x.0 x.1 ∷ mark signs.LeftBracket opening ∷ number l (front middle).site ∷ mark signs.RightBracket closing ∷ mark signs.Semicolon semicolon ∷ rest =
    eq ∙ ap (λ z. word w kind.1 ∷ z) (named ∙ ap (λ z. name x.0 x.1 ∷ z) (begun ∙ ap (λ z. mark signs.LeftBracket opening ∷ z) (number_there ∙ ap (λ z. number l (front middle).site ∷ z) (close ∙ ap (λ z. mark signs.RightBracket closing ∷ z) over)))) in (
      subst (λ m. IsItem (suc room) n (word words.Local at ∷ ts) (DeclareArray n at kind.0 x.1 x.0 m) (n + 1) rest) value
          (subst (λ z. IsItem (suc room) n (word words.Local at ∷ z) (DeclareArray n at kind.0 x.1 x.0 l.value) (n + 1) rest) (sym all)
          (rules.array w kind.0 x.0 l at kind.1 x.1 opening (front middle).site closing semicolon found)),
      fair,
    )

ArrayRead : (room n : ℕ) → Site → List Lexeme → Statement → List Lexeme → Type 0
ArrayRead room n at ts s rest = IsItem room n (word words.Local at ∷ ts) s (n + 1) rest × ArraysFit s

array-sound : (room n : ℕ) (at : Site) (ts rest : List Lexeme) (s : Statement) → run (array_reader room n at) ts ≡ Took s rest → ArrayRead room n at ts s rest
unfolding array_reader ArrayRead
array-sound room n at ts rest s k =
    let w = taking (array_reader room n at) ts rest s k in
    let x = w.3 in
    let others : ℕ → Reader Statement = λ room. Then length_reader (λ length. Then (expects is_right_bracket) (λ closing. Then (expects is_semicolon) (λ semicolon. Gives (DeclareArray n at w.0.0 x.0.1 x.0.0 length)))) in
    opened-then (λ room. ArrayRead room n at ts s rest) is_left_bracket room others x.1 rest s x.3
    (λ less due l. let c = l.3 in
    let d = c.3 in
    settled (ArrayRead (suc less) n at ts) s (DeclareArray n at w.0.0 x.0.1 x.0.0 l.0) d.1 rest d.3
    (array-read less n at ts w.1 x.1 (behind x.1) l.1 c.1 d.1 w.0 x.0 l.0 (front x.1).site (front l.1).site (front c.1).site
    (a-type ts w.1 w.0 w.2) (a-name w.1 x.1 x.0 x.2) (left_bracket x.1 due) (length-sound (behind x.1) l.1 l.0 l.2) (right_bracket_due l.1 c.1 c.0 c.2) (semicolon_due c.1 d.1 d.0 d.2)))

item-by-sound : (statement : Reader (Statement × ℕ)) (room depth n : ℕ) → Reads (StatementRead room n) statement → n ≤ 512 → (ts rest : List Lexeme) (s : Statement × ℕ) (o : Option Kind) → run (item_by statement room depth n (front ts) o) ts ≡ Took s rest → ItemRead room n ts s rest
unfolding ArrayRead
item-by-sound statement room depth n sound le ts rest s None k =
    let arrays : Reader (Statement × ℕ) = Then (array_reader room n (front ts).site) (λ s. Gives (s, n + 1)) in
    on-test (is_local (front ts).kind) (Passes arrays) statement ts rest s k
    (λ due k. let w = taking arrays (behind ts) rest s k in
    let h = array-sound room n (front ts).site (behind ts) w.1 w.0 w.2 in
    settled (ItemRead room n ts) s (w.0, n + 1) w.1 rest w.3 (subst (λ l. IsItem room n l w.0 (n + 1) w.1) (sym (local_stands ts due)) h.0, omega (arith, le), h.1))
    (λ other k. let h = sound ts rest s k in (rules.statement h.0, h.1, h.2))
item-by-sound statement room depth n sound le ts rest s (Some kind) k =
    let w = taking (Then (declaration_reader room depth n) (λ d. Then (expects is_semicolon) (λ semicolon. Gives (Declare d, n + 1)))) ts rest s k in
    let c = w.3 in
    settled (ItemRead room n ts) s (Declare w.0, n + 1) c.1 rest c.3
    (rules.declares (front w.1).site (subst (IsDeclaration room n ts w.0) (semicolon_due w.1 c.1 c.0 c.2) (declaration-sound room depth n ts w.1 w.0 w.2)), omega (arith, le), tt)

-- level after level
levels-sound : (depth : ℕ) → StatementsSound (levels depth).statement × BodiesSound (levels depth).body × BlocksSound (levels depth).block
levels-sound zero =
    let fails : StatementsSound (λ room n. Fails TooDeep) = λ room n ts rest s k. absurd (not-taken TooDeep ts rest s k) in
    let blocks : BlocksSound (levels zero).block = λ room n le. items-sound room (λ n. Fails TooDeep) (λ n ts rest s k. absurd (not-taken TooDeep ts rest s k)) most_items n le in
    (fails, body-sound (λ room n. Fails TooDeep) (levels zero).block fails blocks, blocks)
levels-sound (suc depth) =
    let below = levels-sound depth in
    let statements : StatementsSound (levels (suc depth)).statement = λ room n ts rest s k.
    on-test (nat_lt 512 n) (Fails TooMany) (Looks (λ t. statement_by (levels depth).body (levels depth).block room depth n t.site t.kind)) ts rest s k (λ more k. absurd (not-taken TooMany ts rest s k))
    (λ few k. by-word (levels depth).body (levels depth).block below.1 below.2 room depth n (ltb-false 512 n few) ts rest s (front ts).kind refl k) in
    let blocks : BlocksSound (levels (suc depth)).block = λ room n le.
    items-sound room (λ n. counted n (Looks (λ t. item_by ((levels (suc depth)).statement room n) room depth n t (kind_at t.kind))))
    (λ n ts rest s k. on-test (nat_lt 512 n) (Fails TooMany) (Looks (λ t. item_by ((levels (suc depth)).statement room n) room depth n t (kind_at t.kind))) ts rest s k (λ more k. absurd (not-taken TooMany ts rest s k))
    (λ few k. item-by-sound ((levels (suc depth)).statement room n) room depth n (statements room n) (ltb-false 512 n few) ts rest s (kind_at (front ts).kind) k)) most_items n le in
    (statements, body-sound (levels (suc depth)).statement (levels (suc depth)).block statements blocks, blocks)

pub block-sound : (depth room n : ℕ) → n ≤ 513 → Reads (ItemsRead room n) (block_reader depth room n)
unfolding block_reader
block-sound depth room n le = (levels-sound depth).2 room n le
