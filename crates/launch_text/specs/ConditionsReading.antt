-- Reading a conditions text: its lines in order, each condition with its line, or the first fault.
use Rattle.std.specs.Prelude.{ℕ, ◌+◌, ◌*◌, pos, List, [], map, length, drop, Bool, true, false, cond, ◌&&◌, nat_le, nat_lt, int_le, Option, None, Some, Ok, Err, codes}
use Rattle.lines.specs.Lines.{is_empty}
use Rattle.semantics.specs.Word.{Kind, Word}
use Rattle.semantics.specs.Launch.{Three}
use Rattle.semantics.specs.Conditions as meaning
use Rattle.semantics.specs.Conditions.{Summand}
use Rattle.texts.specs.Surface.{Parameter, Buffer, Value}
use Rattle.launch_text.specs.LaunchFaults.{EmptyRange, LimitPassed, Cursor, cursor, Step, refused, then, sees, past, expect, end_line}
use Rattle.launch_text.specs.LaunchWords.{Conditions, natural_at, word_at, due, due_blank, due_parameter, each, several, end_text}
use Rattle.launch_text.specs.LaunchSums.{sum_at, buffer_at}
use Rattle.launch_text.specs.HeadReading.{Head, no_head, head_at, past_head}

-- both ends belong to a range
pub record CountRange : Type 0 where
  pub low : ℕ
  pub high : ℕ

pub record ArgumentRange : Type 0 where
  pub low : Word
  pub high : Word
  pub line : ℕ

-- a buffer of a kind has at least as many elements as a sum
pub record Length : Type 0 where
  pub kind : Kind
  pub least : List Summand
  pub line : ℕ

pub record Requirement : Type 0 where
  pub left : List Summand
  pub right : List Summand
  pub line : ℕ

-- each element of a buffer is at most a sum, or at least
pub record ContentLine : Type 0 where
  pub buffer : ℕ
  pub is_upper : Bool
  pub sum : List Summand
  pub line : ℕ

-- what a conditions text says, each condition with its line
pub record Lined : Type 0 where
  pub groups : Three CountRange
  pub groups_line : ℕ
  pub arguments : List ArgumentRange
  pub lengths : List Length
  pub requires : List Requirement
  pub contents : List ContentLine
  pub budget : ℕ

-- the conditions themselves
abbrev pub counts_meant : CountRange → meaning.Range
counts_meant r = record { low = pos r.low; high = pos r.high }

abbrev pub argument_meant : ArgumentRange → meaning.Range
argument_meant r = record { low = r.low.value; high = r.high.value }

abbrev pub length_meant : Length → List Summand
length_meant l = l.least

abbrev pub requirement_meant : Requirement → meaning.Requirement
requirement_meant r = record { left = r.left; right = r.right }

abbrev pub content_meant : ContentLine → meaning.Content
content_meant x = record { buffer = x.buffer; is_upper = x.is_upper; sum = x.sum }

abbrev pub meant : Lined → meaning.Conditions
meant c = record {
  groups = record { x = counts_meant c.groups.x; y = counts_meant c.groups.y; z = counts_meant c.groups.z };
  arguments = map argument_meant c.arguments;
  lengths = map length_meant c.lengths;
  requires = map requirement_meant c.requires;
  contents = map content_meant c.contents;
  budget = c.budget;
}

abbrev pub counts_between : (low high : ℕ) → CountRange
counts_between low high = record { low = low; high = high }

-- `L..H`
unfoldable pub counts_at : Cursor → Step (CountRange × Cursor)
counts_at c =
    then (natural_at 1 65536 c) (λ low. then (expect (codes "..") low.1) (λ d. then (natural_at 1 65536 d) (λ high.
    cond (nat_le low.0 high.0) (Ok (counts_between low.0 high.0, high.1)) (refused EmptyRange high.1))))

abbrev pub words_between : (low high : Word) (line : ℕ) → ArgumentRange
words_between low high line = record { low = low; high = high; line = line }

unfoldable pub argument_at : Kind → Cursor → Step (ArgumentRange × Cursor)
argument_at k c =
    then (word_at k c) (λ low. then (expect (codes "..") low.1) (λ d. then (word_at k d) (λ high.
    cond (int_le low.0.value high.0.value) (Ok (words_between low.0 high.0 c.line, high.1)) (refused EmptyRange high.1))))

abbrev pub three : {A : Type 0} → A → A → A → Three A
three x y z = record { x = x; y = y; z = z }

unfoldable pub three_counts_at : Cursor → Step (Three CountRange × Cursor)
three_counts_at c =
    then (counts_at c) (λ x. then (expect (codes " ") x.1) (λ d. then (counts_at d) (λ y. then (expect (codes " ") y.1) (λ e. then (counts_at e) (λ z.
    Ok (three x.0 y.0 z.0, z.1))))))

-- the counts are at most 1,048,576 together
unfoldable pub groups_line : Cursor → Step (Three CountRange × Cursor)
groups_line c =
    then (due_blank Conditions (codes "groups") c) (λ a. then (three_counts_at a) (λ t.
    cond (nat_lt 1048576 (t.0.x.high * t.0.y.high * t.0.z.high)) (refused LimitPassed t.1) (then (end_line t.1) (λ d. Ok (t.0, d)))))

unfoldable pub argument_line : List Parameter → Kind → (name : List ℕ) → Cursor → Step (ArgumentRange × Cursor)
argument_line ps k name c =
    then (due_parameter Conditions (codes "arg") ps name c) (λ a. then (argument_at k a) (λ t. then (end_line t.1) (λ d. Ok (t.0, d))))

-- one line a value parameter
abbrev pub argument_due : List Parameter → List ArgumentRange → Parameter → Option (Cursor → Step (ArgumentRange × Cursor))
argument_due ps ranges (Buffer constant k site name) = None
argument_due ps ranges (Value k site name) = Some (argument_line ps k name)

abbrev pub argument_lines : List Parameter → Cursor → Step (List ArgumentRange × Cursor)
argument_lines ps c = each (argument_due ps) [] ps c

abbrev pub length_of : Kind → List Summand → (line : ℕ) → Length
length_of k least line = record { kind = k; least = least; line = line }

-- a sum has at most 8 terms
unfoldable pub length_line : (has_products : Bool) → List Parameter → Kind → (name : List ℕ) → Cursor → Step (Length × Cursor)
length_line has_products ps k name c =
    then (due_parameter Conditions (codes "length") ps name c) (λ a. then (expect (codes ">= ") a) (λ b. then (sum_at has_products ps 8 [] b) (λ t.
    then (end_line t.1) (λ d. Ok (length_of k t.0 c.line, d)))))

-- one line a buffer parameter
abbrev pub length_due : (has_products : Bool) → List Parameter → List Length → Parameter → Option (Cursor → Step (Length × Cursor))
length_due has_products ps lengths (Buffer constant k site name) = Some (length_line has_products ps k name)
length_due has_products ps lengths (Value k site name) = None

abbrev pub length_lines : (has_products : Bool) → List Parameter → Cursor → Step (List Length × Cursor)
length_lines has_products ps c = each (length_due has_products ps) [] ps c

abbrev pub requirement_of : (left right : List Summand) (line : ℕ) → Requirement
requirement_of left right line = record { left = left; right = right; line = line }

unfoldable pub requirement_line : (has_products : Bool) → List Parameter → Cursor → Step (Requirement × Cursor)
requirement_line has_products ps c =
    then (due_blank Conditions (codes "require") c) (λ a. then (sum_at has_products ps 8 [] a) (λ left. then (expect (codes " >= ") left.1) (λ b.
    then (sum_at has_products ps 8 [] b) (λ right. then (end_line right.1) (λ d. Ok (requirement_of left.0 right.0 c.line, d))))))

-- as many as there are, at most 16
abbrev pub requirement_lines : (has_products : Bool) → List Parameter → Cursor → Step (List Requirement × Cursor)
requirement_lines has_products ps c = several (codes "require") (requirement_line has_products ps) 16 [] c

-- whether the sum is the upper end
unfoldable pub end_at : Cursor → Step (Bool × Cursor)
end_at c = cond (sees (codes " <= ") c) (Ok (true, past 4 c)) (then (expect (codes " >= ") c) (λ d. Ok (false, d)))

abbrev pub content_of : (buffer : ℕ) (is_upper : Bool) → List Summand → (line : ℕ) → ContentLine
content_of buffer is_upper sum line = record { buffer = buffer; is_upper = is_upper; sum = sum; line = line }

unfoldable pub content_line : List Parameter → Cursor → Step (ContentLine × Cursor)
content_line ps c =
    then (due_blank Conditions (codes "values") c) (λ a. then (buffer_at ps a) (λ b. then (end_at b.1) (λ e.
    then (sum_at true ps 8 [] e.1) (λ t. then (end_line t.1) (λ d. Ok (content_of b.0 e.0 t.0 c.line, d))))))

-- as many as there are, at most 16; in texts of version 1 there are none
unfoldable pub content_lines : (is_two : Bool) → List Parameter → Cursor → Step (List ContentLine × Cursor)
content_lines false ps c = Ok ([], c)
content_lines true ps c = several (codes "values") (content_line ps) 16 [] c

unfoldable pub budget_line : Cursor → Step (ℕ × Cursor)
budget_line c =
    then (due_blank Conditions (codes "budget") c) (λ a. then (natural_at 1 1000000000000 a) (λ t. then (end_line t.1) (λ d. Ok (t.0, d))))

-- the line may be left out in texts of version 3, whose budget is the greatest then
unfoldable pub budget_at : (may_lack : Bool) → Cursor → Step (ℕ × Cursor)
budget_at may_lack c = cond (may_lack && is_empty c.rest) (Ok (1000000000000, c)) (budget_line c)

abbrev pub lined : Three CountRange → (groups_line : ℕ) → List ArgumentRange → List Length → List Requirement → List ContentLine → ℕ → Lined
lined groups groups_line arguments lengths requires contents budget =
    record { groups = groups; groups_line = groups_line; arguments = arguments; lengths = lengths; requires = requires; contents = contents; budget = budget }

-- in texts of version 2, which are read where they may be, sums may have products, and lines say what buffers hold
unfoldable pub version_at : (may_be_two : Bool) → Cursor → Step (Bool × Cursor)
version_at may_be_two c = cond (may_be_two && sees (codes " 2") c) (Ok (true, past 2 c)) (then (expect (codes " 1") c) (λ d. Ok (false, d)))

-- the first line behind its first word, in texts of versions 1 and 2
unfoldable pub numbered_line : (may_be_two : Bool) → Cursor → Step (Bool × Cursor)
numbered_line may_be_two c = then (version_at may_be_two c) (λ v. then (end_line v.1) (λ d. Ok (v.0, d)))

-- the end of the first line of a text of version 3, and its head, which says nothing of the conditions; all else is as in version 2
unfoldable pub headed_line : Cursor → Step (Bool × Cursor)
headed_line c = then (end_line c) (λ d. then (past_head d) (λ e. Ok (true, e)))

-- texts of version 3 are read where those of version 2 are
abbrev pub is_headed : (may_be_two : Bool) → Cursor → Bool
is_headed may_be_two c = may_be_two && sees (codes " 3") c

-- the first line, and the head behind it
unfoldable pub version_line : (may_be_two : Bool) → Cursor → Step (Bool × Cursor)
version_line may_be_two c =
    then (due Conditions (codes "conditions") c) (λ a. cond (is_headed may_be_two a) (headed_line (past 2 a)) (numbered_line may_be_two a))

-- whether a text, at its begin, is one of version 3
abbrev pub is_third : (may_be_two : Bool) → Cursor → Bool
is_third may_be_two c = may_be_two && sees (codes "conditions 3") c

-- all lines
unfoldable pub conditions_at : (may_be_two : Bool) → List Parameter → Cursor → Step Lined
conditions_at may_be_two ps c =
    then (version_line may_be_two c) (λ v. then (groups_line v.1) (λ groups. then (argument_lines ps groups.1) (λ arguments.
    then (length_lines v.0 ps arguments.1) (λ lengths. then (requirement_lines v.0 ps lengths.1) (λ requires. then (content_lines v.0 ps requires.1) (λ contents.
    then (budget_at (is_third may_be_two c) contents.1) (λ budget. then (end_text budget.1) (λ _. Ok (lined groups.0 v.1.line arguments.0 lengths.0 requires.0 contents.0 budget.0)))))))))

-- the longest conditions text, in bytes
abbrev pub conditions_limit : ℕ
conditions_limit = 65536

-- what a text says of a kernel with these parameters, or its first fault and the number of the line
abbrev pub conditions_of : (may_be_two : Bool) → List Parameter → List ℕ → Step Lined
conditions_of may_be_two ps text = cond (nat_lt conditions_limit (length text)) (Err (LimitPassed, 1)) (conditions_at may_be_two ps (cursor 1 text))

-- the head of a text whose first line says version 3, or the first fault up to its end; another text has none, and no fault here
unfoldable pub head_behind : Cursor → Step Head
head_behind c = cond (sees (codes "conditions 3\n") c) (then (head_at (cursor (c.line + 1) (drop 13 c.rest))) (λ h. Ok h.0)) (Ok no_head)

abbrev pub head_of : List ℕ → Step Head
head_of text = cond (nat_lt conditions_limit (length text)) (Err (LimitPassed, 1)) (head_behind (cursor 1 text))
