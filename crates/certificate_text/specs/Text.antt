-- The text of a certificate: one for each.
use Rattle.std.specs.Prelude.{ℕ, List, [], ◌∷◌, ◌++◌, map, Option, None, Some, codes}
use Rattle.std.specs.List.{flat_map}
use Rattle.std.specs.Fmt.{decimal, signed_decimal}
use Rattle.linear.specs.Linear.{Weighted, Form}
use Rattle.lines.specs.Lines.{text_of_lines}
use Rattle.certificate_text.specs.Certificate.{Dimension, First, Second, Third, Name, Variable, AtAnchor, Turns, Fresh, Argument, Length, Groups, Group, Local, Product, Anchor, KernelEntry, Barrier, Spot, Congruence, Multiple, Place, Descent, Down, Halve, Double, Bound, EntrySort, Show, Positive, Negative, Quotient, Scaled, Step, Given, Sum, Divide, Lemma, Entry, Certificate}

abbrev pub dimension_text : Dimension → List ℕ
dimension_text First = codes "0"
dimension_text Second = codes "1"
dimension_text Third = codes "2"

abbrev pub name_text : Name → List ℕ
name_text (Variable name) = name
name_text (AtAnchor name) = codes "@" ++ name
name_text (Turns loop) = codes "$" ++ decimal loop
name_text (Fresh number) = codes "#" ++ decimal number
name_text (Argument name) = codes "arg." ++ name
name_text (Length name) = codes "len." ++ name
name_text (Groups dimension) = codes "groups." ++ dimension_text dimension
name_text (Group dimension) = codes "group." ++ dimension_text dimension
name_text (Local dimension) = codes "local." ++ dimension_text dimension
name_text (Second name) = name_text name ++ codes "'"
name_text (Product first others) = name_text first ++ (codes "*" ++ name_text others)

-- `C*NAME + `
abbrev pub term_text : Weighted Name → List ℕ
term_text t = signed_decimal t.coefficient ++ (codes "*" ++ (name_text t.symbol ++ codes " + "))

-- `C*NAME + C*NAME + .. + C`
abbrev pub form_text : Form Name → List ℕ
form_text f = flat_map term_text f.terms ++ signed_decimal f.constant

abbrev pub anchor_text : Anchor → List ℕ
anchor_text KernelEntry = codes "entry"
anchor_text (Barrier statement) = codes "b" ++ decimal statement

abbrev pub head_text : Option ℕ → List ℕ
head_text None = []
head_text (Some loop) = codes "/h" ++ decimal loop

abbrev pub place_line : Spot → List ℕ
place_line s = codes "place " ++ (anchor_text s.anchor ++ head_text s.head)

abbrev pub same_line : List ℕ → List ℕ
same_line name = codes "same " ++ name

abbrev pub fact_line : Form Name → List ℕ
fact_line f = codes "fact " ++ form_text f

abbrev pub congruence_line : Congruence → List ℕ
congruence_line c = codes "mod " ++ (decimal c.modulus ++ (codes " " ++ form_text c.form))

-- the form, and what it is a multiple of
abbrev pub multiple_line : Multiple → List ℕ
multiple_line m = codes "multiple " ++ (form_text m.form ++ (codes " of " ++ form_text m.of))

abbrev pub place_lines : Place → List (List ℕ)
place_lines p =
    place_line p.spot ∷ (map same_line p.same ++ (map fact_line p.facts ++ (map congruence_line p.congruences ++ map multiple_line p.multiples)))

abbrev pub descent_text : Descent → List ℕ
descent_text (Down step) = codes "down " ++ decimal step
descent_text Halve = codes "halve"
descent_text (Double least) = codes "double " ++ decimal least

abbrev pub bound_line : Bound → List ℕ
bound_line b =
    codes "loop " ++ (decimal b.loop ++ (codes " " ++ (descent_text b.descent ++ (codes " " ++ (signed_decimal b.most ++ (codes " " ++ form_text b.form))))))

abbrev pub sort_text : EntrySort → List ℕ
sort_text Show = codes "show"
sort_text Positive = codes "pos"
sort_text Negative = codes "neg"
sort_text (Quotient form) = codes "quot " ++ form_text form

abbrev pub entry_line : (obligation : ℕ) → EntrySort → List ℕ
entry_line obligation sort = codes "ob " ++ (decimal obligation ++ (codes " " ++ sort_text sort))

abbrev pub scaled_text : Scaled → List ℕ
scaled_text s = codes " " ++ (signed_decimal s.factor ++ (codes " " ++ signed_decimal s.line))

abbrev pub step_line : Step → List ℕ
step_line (Given fact) = codes "g " ++ signed_decimal fact
step_line (Sum parts) = codes "s" ++ flat_map scaled_text parts
step_line (Divide quotient) = codes "d" ++ scaled_text quotient
step_line (Product first second) = codes "p " ++ (signed_decimal first ++ (codes " " ++ signed_decimal second))

abbrev pub lemma_line : Form Name → List ℕ
lemma_line f = codes "l " ++ form_text f

abbrev pub lemma_lines : Lemma → List (List ℕ)
lemma_lines l = lemma_line l.form ∷ map step_line l.steps

-- `m` stands behind lemmas alone
abbrev pub main_lines : List Lemma → List (List ℕ)
main_lines [] = []
main_lines (l ∷ others) = codes "m" ∷ []

abbrev pub entry_lines : Entry → List (List ℕ)
entry_lines e = entry_line e.obligation e.sort ∷ (flat_map lemma_lines e.lemmas ++ (main_lines e.lemmas ++ map step_line e.steps))

-- between the first line and the last
abbrev pub body_lines : Certificate → List (List ℕ)
body_lines c = flat_map place_lines c.places ++ (map bound_line c.bounds ++ flat_map entry_lines c.entries)

abbrev pub text_of : Certificate → List ℕ
text_of c = text_of_lines (codes "certificate 1" ∷ (body_lines c ++ codes "end" ∷ []))
