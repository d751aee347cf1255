-- Lines with ranges that a conditions text has by cases are read of it.
use Rattle.std.proofs.Common.{◌≡◌, ℕ, ◌+◌, ◌*◌, ◌≤◌, true, false, nat_le, nat_lt, List, [], ◌∷◌, ◌++◌, map, Ok, refl, ap, sym, ◌∙◌, subst, append_assoc, arith}
use Rattle.std.specs.Prelude.{ℤ, pos, negsuc, ◌≤ℤ◌, ◌*ℤ◌, codes}
use Rattle.std.specs.List.{prefix_len}
use Rattle.std.specs.Fmt.{decimal, signed_decimal}
use Rattle.std.proofs.lemmas.Bool.Decides.{nat_tests}
use Rattle.std.proofs.lemmas.Int.{ints}
use Rattle.semantics.specs.Word.{Kind, word}
use Rattle.semantics.specs.Launch.{Three}
use Rattle.semantics.specs.Conditions.{Range}
use Rattle.lines.specs.Bytes.{is_decimal_digit}
use Rattle.lines.specs.Identifiers.{is_identifier}
use Rattle.texts.specs.Surface.{Parameter, Buffer, Value}
use Rattle.launch_text.specs.LaunchFaults.{Cursor, Step, cursor, expect}
use Rattle.launch_text.specs.LaunchWords.{Conditions, due, due_blank, due_parameter, each}
use Rattle.launch_text.specs.ConditionsReading.{CountRange, ArgumentRange, counts_meant, argument_meant, counts_between, counts_at, words_between, three, three_counts_at, groups_line, argument_at, argument_line, argument_due}
use Rattle.launch_text.specs.ConditionsText.{range_text, AreCounts, AreOfKind, groups_text, argument_text, AreArgumentLines, no_argument, past_buffer, an_argument}
use Rattle.launch.proofs.Unmet.{le-met}
use Rattle.launch_text.specs.Parameters.{AreNamed}
use Rattle.launch_text.proofs.Forth.{natural_forth, word_forth, parameter_forth}
use Rattle.launch_text.proofs.LinesForth.{blank_forth, end_forth, each_goes, each_skips, each_ends, appended}
use Rattle.launch_text.proofs.LinesTaken.{groups_meant, groups_shape, argument_shape}

groups_due : (rest : List ℕ) (n : ℕ) → due_blank Conditions (codes "groups") (cursor n (codes "groups " ++ rest)) ≡ Ok (cursor n rest)
unfolding due_blank due expect
groups_due rest n = refl

arg_due : (rest : List ℕ) (n : ℕ) → due_blank Conditions (codes "arg") (cursor n (codes "arg " ++ rest)) ≡ Ok (cursor n rest)
unfolding due_blank due expect
arg_due rest n = refl

dots_forth : (rest : List ℕ) (n : ℕ) → expect (codes "..") (cursor n (codes ".." ++ rest)) ≡ Ok (cursor n rest)
unfolding expect
dots_forth rest n = refl

-- the count that a number is
abbrev count_for : ℤ → ℕ
count_for (pos n) = n
count_for (negsuc n) = 0

abbrev pub counts_for : Range → CountRange
counts_for r = counts_between (count_for r.low) (count_for r.high)

count_is : (z : ℤ) → pos 1 ≤ℤ z → pos (count_for z) ≡ z
count_is (pos n) h = refl
count_is (negsuc n) h = absurd (omega (arith, ints, h))

counts_are : (r : Range) → AreCounts r → counts_meant (counts_for r) ≡ r
counts_are r h = rw (count_is r.low h.0, count_is r.high (omega (arith, ints, h.0, h.1))) refl

range_shape : (low high rest : List ℕ) → (low ++ (codes ".." ++ high)) ++ rest ≡ low ++ (codes ".." ++ (high ++ rest))
range_shape low high rest = simp append_assoc

counted_forth : (r : CountRange) (rest : List ℕ) (n : ℕ) → AreCounts (counts_meant r) → prefix_len is_decimal_digit rest ≡ 0 → counts_at (cursor n (range_text (counts_meant r) ++ rest)) ≡ Ok (r, cursor n rest)
unfolding counts_at
counted_forth r rest n h s =
    let least : 1 ≤ r.low = omega (arith, ints, h.0) in
    let order : r.low ≤ r.high = omega (arith, ints, h.1) in
    let most : r.high ≤ 65536 = omega (arith, ints, h.2) in
    let rises : nat_le r.low r.high ≡ true = grind (arith, nat_tests) in
    rw (
      range_shape (decimal r.low) (decimal r.high) rest,
      natural_forth 1 65536 r.low (codes ".." ++ (decimal r.high ++ rest)) n least (omega arith) (omega arith) refl,
      dots_forth (decimal r.high ++ rest) n,
      natural_forth 1 65536 r.high rest n (omega arith) most (omega arith) s,
      rises,
    ) refl

abbrev groups_for : Three Range → Three CountRange
groups_for g = three (counts_for g.x) (counts_for g.y) (counts_for g.z)

three_shape : (x y z rest : List ℕ) → (x ++ (codes " " ++ (y ++ (codes " " ++ z)))) ++ rest ≡ x ++ (32 ∷ (y ++ (32 ∷ (z ++ rest))))
three_shape x y z rest = simp append_assoc

three_forth : (x y z : CountRange) (rest : List ℕ) (n : ℕ) → AreCounts (counts_meant x) → AreCounts (counts_meant y) → AreCounts (counts_meant z)
    → three_counts_at (cursor n ((range_text (counts_meant x) ++ (codes " " ++ (range_text (counts_meant y) ++ (codes " " ++ range_text (counts_meant z))))) ++ (10 ∷ rest))) ≡ Ok (three x y z, cursor n (10 ∷ rest))
unfolding three_counts_at
three_forth x y z rest n a b d =
    let tx : List ℕ = range_text (counts_meant x) in
    let ty : List ℕ = range_text (counts_meant y) in
    let tz : List ℕ = range_text (counts_meant z) in
    rw (
      three_shape tx ty tz (10 ∷ rest),
      counted_forth x (32 ∷ (ty ++ (32 ∷ (tz ++ (10 ∷ rest))))) n a refl,
      blank_forth (ty ++ (32 ∷ (tz ++ (10 ∷ rest)))) n,
      counted_forth y (32 ∷ (tz ++ (10 ∷ rest))) n b refl,
      blank_forth (tz ++ (10 ∷ rest)) n,
      counted_forth z (10 ∷ rest) n d refl,
    ) refl

not_over : (n most : ℕ) → pos n ≤ℤ pos most → nat_lt most n ≡ false
not_over n most h = grind (arith, ints, nat_tests)

grouped_forth : (x y z : CountRange) (rest : List ℕ) (n : ℕ) → AreCounts (counts_meant x) → AreCounts (counts_meant y) → AreCounts (counts_meant z) → (pos x.high *ℤ pos y.high *ℤ pos z.high) ≤ℤ pos 1048576
    → groups_line (cursor n (groups_text (groups_meant (three x y z)) ++ rest)) ≡ Ok (three x y z, cursor (n + 1) rest)
unfolding groups_line
grouped_forth x y z rest n a b d few =
    let tx : List ℕ = range_text (counts_meant x) in
    let ty : List ℕ = range_text (counts_meant y) in
    let tz : List ℕ = range_text (counts_meant z) in
    rw (
      sym (groups_shape tx ty tz rest),
      groups_due ((tx ++ (codes " " ++ (ty ++ (codes " " ++ tz)))) ++ (10 ∷ rest)) n,
      three_forth x y z rest n a b d,
      not_over (x.high * y.high * z.high) 1048576 few,
      end_forth rest n,
    ) refl

-- what a line is read as, and what that means
pub record ReadsGroups (g : Three Range) (rest : List ℕ) (n : ℕ) : Type 0 where
  pub groups : Three CountRange
  pub is_read : groups_line (cursor n (groups_text g ++ rest)) ≡ Ok (groups, cursor (n + 1) rest)
  pub is_meant : groups_meant groups ≡ g

groups_are : (g : Three Range) → AreCounts g.x → AreCounts g.y → AreCounts g.z → groups_meant (groups_for g) ≡ g
groups_are g a b d = rw (counts_are g.x a, counts_are g.y b, counts_are g.z d) refl

pub groups_forth : (g : Three Range) (rest : List ℕ) (n : ℕ) → AreCounts g.x → AreCounts g.y → AreCounts g.z → (g.x.high *ℤ g.y.high *ℤ g.z.high) ≤ℤ pos 1048576 → ReadsGroups g rest n
groups_forth g rest n a b d few =
    let same = groups_are g a b d in
    let read = groups_for g in
    record {
      groups = read;
      is_read = ap (λ m. groups_line (cursor n (groups_text m ++ rest))) (sym same)
          ∙ grouped_forth read.x read.y read.z rest n (subst AreCounts (sym (counts_are g.x a)) a) (subst AreCounts (sym (counts_are g.y b)) b) (subst AreCounts (sym (counts_are g.z d)) d)
          (subst (λ (m : Three Range). (m.x.high *ℤ m.y.high *ℤ m.z.high) ≤ℤ pos 1048576) (sym same) few);
      is_meant = same;
    }

range_forth : (k : Kind) (r : Range) (rest : List ℕ) (n : ℕ) → AreOfKind k r → prefix_len is_decimal_digit rest ≡ 0 → argument_at k (cursor n (range_text r ++ rest)) ≡ Ok (words_between (word k r.low) (word k r.high) n, cursor n rest)
unfolding argument_at
range_forth k r rest n h s =
    rw (
      range_shape (signed_decimal r.low) (signed_decimal r.high) rest,
      word_forth k (word k r.low) (codes ".." ++ (signed_decimal r.high ++ rest)) n (refl, h.0) refl,
      dots_forth (signed_decimal r.high ++ rest) n,
      word_forth k (word k r.high) rest n (refl, h.1) s,
      le-met r.low r.high h.2,
    ) refl

argument_forth : (ps : List Parameter) (k : Kind) (name : List ℕ) (r : Range) (rest : List ℕ) (n : ℕ) → is_identifier name ≡ true → AreOfKind k r → argument_line ps k name (cursor n (argument_text name r ++ rest)) ≡ Ok (words_between (word k r.low) (word k r.high) n, cursor (n + 1) rest)
unfolding argument_line due_parameter
argument_forth ps k name r rest n i h =
    rw (
      sym (argument_shape name (range_text r) rest),
      arg_due (name ++ (32 ∷ (range_text r ++ (10 ∷ rest)))) n,
      parameter_forth ps name (32 ∷ (range_text r ++ (10 ∷ rest))) n i refl,
      blank_forth (range_text r ++ (10 ∷ rest)) n,
      range_forth k r (10 ∷ rest) n h refl,
      end_forth rest n,
    ) refl

-- lines are read behind those that were read before, and mean this
pub record ReadsLines {A B : Type 0} (reader : Cursor → Step (List A × Cursor)) (view : A → B) (done : List A) (lines : List ℕ) (bs : List B) (rest : List ℕ) (n : ℕ) : Type 0 where
  pub read : List A
  pub line : ℕ
  pub is_read : reader (cursor n (lines ++ rest)) ≡ Ok (done ++ read, cursor line rest)
  pub is_meant : map view read ≡ bs

pub arguments_forth : (all : List Parameter) (done : List ArgumentRange) (ps : List Parameter) (lines : List ℕ) (rs : List Range) (rest : List ℕ) (n : ℕ) → AreNamed ps → AreArgumentLines ps lines rs → ReadsLines (each (argument_due all) done ps) argument_meant done lines rs rest n
arguments_forth all done ps lines rs rest n i no_argument = record { read = []; line = n; is_read = each_ends (argument_due all) done (cursor n rest); is_meant = refl }
arguments_forth all done ps lines rs rest n i (past_buffer {ps = others} constant k site name more) =
    let behind = arguments_forth all done others lines rs rest n i.1 more in
    record {
      read = behind.read;
      line = behind.line;
      is_read = each_skips (argument_due all) done (Buffer constant k site name) others (cursor n (lines ++ rest)) refl ∙ behind.is_read;
      is_meant = behind.is_meant;
    }
arguments_forth all done ps lines rs rest n i (an_argument {ps = others} {lines = after} {rs = ranges} k site name r h more) =
    let a : ArgumentRange = words_between (word k r.low) (word k r.high) n in
    let behind = arguments_forth all (done ++ a ∷ []) others after ranges rest (n + 1) i.1 more in
    let here : argument_line all k name (cursor n ((argument_text name r ++ after) ++ rest)) ≡ Ok (a, cursor (n + 1) (after ++ rest)) =
    ap (λ bytes. argument_line all k name (cursor n bytes)) (append_assoc (argument_text name r) after rest) ∙ argument_forth all k name r (after ++ rest) n i.0 h in
    record {
      read = a ∷ behind.read;
      line = behind.line;
      is_read = each_goes (argument_due all) done (Value k site name) others (cursor n ((argument_text name r ++ after) ++ rest)) (cursor (n + 1) (after ++ rest)) (argument_line all k name) a refl here
          ∙ behind.is_read ∙ appended done a behind.read (cursor behind.line rest);
      is_meant = ap (λ others. r ∷ others) behind.is_meant;
    }
