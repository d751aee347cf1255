-- What a conditions text says by cases is read of it.
use Rattle.std.proofs.Common.{◌≡◌, ℕ, zero, suc, ◌+◌, ◌≤◌, Bool, true, false, nat_lt, List, [], ◌∷◌, ◌++◌, length, Some, Ok, refl, ap, sym, ◌∙◌, subst, append_assoc, arith}
use Rattle.std.specs.Prelude.{codes, bytes_eq}
use Rattle.std.specs.Fmt.{decimal}
use Rattle.std.specs.List.{prefix_len}
use Rattle.std.proofs.lemmas.Bool.{cond-false, cond_both}
use Rattle.std.proofs.lemmas.Slice.Eq.{bytes_eq-Decides}
use Rattle.std.proofs.lemmas.List.{append-nil}
use Rattle.semantics.specs.Word.{Kind}
use Rattle.semantics.specs.Launch.{Three}
use Rattle.semantics.specs.Conditions as meaning
use Rattle.semantics.specs.Conditions.{Range, Summand}
use Rattle.lines.specs.Identifiers.{is_identifier}
use Rattle.lines.specs.Bytes.{is_word_byte}
use Rattle.texts.specs.Surface.{Parameter, Buffer, Value}
use Rattle.texts.specs.Spelling.{SpellsParameters}
use Rattle.launch_text.specs.LaunchFaults.{Cursor, Step, cursor, expect, end_line}
use Rattle.launch_text.specs.LaunchWords.{Conditions, due, due_blank, due_parameter, first_word, each, several}
use Rattle.launch_text.specs.LaunchSums.{buffer_number, buffer_at}
use Rattle.launch_text.specs.ConditionsReading.{Length, Requirement, ContentLine, Lined, length_meant, requirement_meant, content_meant, meant, length_of, length_line, length_due, requirement_of, requirement_line, end_at, content_of, content_line, content_lines, budget_line, budget_at, lined, version_at, numbered_line, headed_line, version_line, is_third, conditions_at, conditions_limit, conditions_of, head_behind, head_of}
use Rattle.launch_text.specs.ConditionsText.{IsShortSum, groups_text, length_text, requirement_text, end_text, content_text, budget_text, AreLengthLines, no_length, past_value, a_length, AreRequirementLines, no_requirement, a_requirement, AreContentLines, no_content, a_content, IsOpening, one, two, three, head_in, is_three, IsBudget, given, greatest, AreConditionsLines, IsConditionsText}
use Rattle.launch_text.specs.Parameters.{AreNamed}
use Rattle.launch_text.proofs.Back.{same_back}
use Rattle.launch_text.proofs.Several.{several_over, several_more}
use Rattle.launch_text.proofs.Forth.{natural_forth, name_forth, parameter_forth}
use Rattle.launch_text.proofs.LinesForth.{blank_forth, end_forth, each_goes, each_skips, each_ends, appended, end_text_forth}
use Rattle.launch_text.proofs.LaunchForth.{not_above}
use Rattle.launch_text.proofs.LinesTaken.{length_shape, requirement_shape, content_shape}
use Rattle.launch_text.proofs.SumsForth.{blank_stops, end_stops, short_sum_forth}
use Rattle.launch_text.proofs.HeadForth.{IsBehind, head_forth}
use Rattle.launch_text.proofs.RangesForth.{ReadsLines, groups_forth, arguments_forth}

length_word_due : (rest : List ℕ) (n : ℕ) → due_blank Conditions (codes "length") (cursor n (codes "length " ++ rest)) ≡ Ok (cursor n rest)
unfolding due_blank due expect
length_word_due rest n = refl

require_due : (rest : List ℕ) (n : ℕ) → due_blank Conditions (codes "require") (cursor n (codes "require " ++ rest)) ≡ Ok (cursor n rest)
unfolding due_blank due expect
require_due rest n = refl

budget_due : (rest : List ℕ) (n : ℕ) → due_blank Conditions (codes "budget") (cursor n (codes "budget " ++ rest)) ≡ Ok (cursor n rest)
unfolding due_blank due expect
budget_due rest n = refl

-- a text opens, and what comes behind it is left
version_forth : (may products : Bool) (opening rest : List ℕ) → IsOpening products opening → IsBehind rest → (products ≡ true → may ≡ true) → (m : ℕ) × (version_line may (cursor 1 (opening ++ rest)) ≡ Ok (products, cursor m rest))
unfolding version_line numbered_line headed_line version_at due expect end_line
version_forth true products opening rest one b h = (2, refl)
version_forth false products opening rest one b h = (2, refl)
version_forth true products opening rest two b h = (2, refl)
version_forth false products opening rest two b h = let k = h refl in absurd cc
version_forth true products opening rest (three head is) b h =
    let own = head_forth head rest 2 is b in
    (own.0, rw own.1 refl)
version_forth false products opening rest (three head is) b h = let k = h refl in absurd cc

-- and what head it has
behind_forth : (products : Bool) (opening rest : List ℕ) (o : IsOpening products opening) → IsBehind rest → head_behind (cursor 1 (opening ++ rest)) ≡ Ok (head_in o)
unfolding head_behind
behind_forth products opening rest one b = refl
behind_forth products opening rest two b = refl
behind_forth products opening rest (three head is) b =
    let own = head_forth head rest 2 is b in
    rw own.1 refl

least_forth : (rest : List ℕ) (n : ℕ) → expect (codes ">= ") (cursor n (codes ">= " ++ rest)) ≡ Ok (cursor n rest)
unfolding expect
least_forth rest n = refl

least_between : (rest : List ℕ) (n : ℕ) → expect (codes " >= ") (cursor n (codes " >= " ++ rest)) ≡ Ok (cursor n rest)
unfolding expect
least_between rest n = refl

length_forth : (products : Bool) (ps : List Parameter) (k : Kind) (name sum : List ℕ) (ss : List Summand) (rest : List ℕ) (n : ℕ) → AreNamed ps → is_identifier name ≡ true → IsShortSum products ps sum ss → length_line products ps k name (cursor n (length_text name sum ++ rest)) ≡ Ok (length_of k ss n, cursor (n + 1) rest)
unfolding length_line due_parameter
length_forth products ps k name sum ss rest n all i h =
    rw (
      sym (length_shape name sum rest),
      length_word_due (name ++ (32 ∷ (codes ">= " ++ (sum ++ (10 ∷ rest))))) n,
      parameter_forth ps name (32 ∷ (codes ">= " ++ (sum ++ (10 ∷ rest)))) n i refl,
      blank_forth (codes ">= " ++ (sum ++ (10 ∷ rest))) n,
      least_forth (sum ++ (10 ∷ rest)) n,
      short_sum_forth products ps sum ss (10 ∷ rest) n all h (end_stops rest) refl,
      end_forth rest n,
    ) refl

lengths_forth : (products : Bool) (all : List Parameter) (done : List Length) (ps : List Parameter) (lines : List ℕ) (sums : List (List Summand)) (rest : List ℕ) (n : ℕ) → AreNamed all → AreNamed ps → AreLengthLines products all ps lines sums → ReadsLines (each (length_due products all) done ps) length_meant done lines sums rest n
lengths_forth products all done ps lines sums rest n i j no_length = record { read = []; line = n; is_read = each_ends (length_due products all) done (cursor n rest); is_meant = refl }
lengths_forth products all done ps lines sums rest n i j (past_value {ps = others} k site name more) =
    let behind = lengths_forth products all done others lines sums rest n i j.1 more in
    record {
      read = behind.read;
      line = behind.line;
      is_read = each_skips (length_due products all) done (Value k site name) others (cursor n (lines ++ rest)) refl ∙ behind.is_read;
      is_meant = behind.is_meant;
    }
lengths_forth products all done ps lines sums rest n i j (a_length {ps = others} {lines = after} {sum = sum} {ss = ss} {sums = least} constant k site name h more) =
    let a : Length = length_of k ss n in
    let own = length_line products all k name in
    let behind = lengths_forth products all (done ++ a ∷ []) others after least rest (n + 1) i j.1 more in
    let here : own (cursor n ((length_text name sum ++ after) ++ rest)) ≡ Ok (a, cursor (n + 1) (after ++ rest)) =
    ap (λ bytes. own (cursor n bytes)) (append_assoc (length_text name sum) after rest) ∙ length_forth products all k name sum ss (after ++ rest) n i j.0 h in
    record {
      read = a ∷ behind.read;
      line = behind.line;
      is_read = each_goes (length_due products all) done (Buffer constant k site name) others (cursor n ((length_text name sum ++ after) ++ rest)) (cursor (n + 1) (after ++ rest)) own a refl here
          ∙ behind.is_read ∙ appended done a behind.read (cursor behind.line rest);
      is_meant = ap (λ others. ss ∷ others) behind.is_meant;
    }

requirement_forth : (products : Bool) (ps : List Parameter) (left right : List ℕ) (r : meaning.Requirement) (rest : List ℕ) (n : ℕ) → AreNamed ps → IsShortSum products ps left r.left → IsShortSum products ps right r.right
    → requirement_line products ps (cursor n (requirement_text left right ++ rest)) ≡ Ok (requirement_of r.left r.right n, cursor (n + 1) rest)
unfolding requirement_line
requirement_forth products ps left right r rest n i a b =
    rw (
      sym (requirement_shape left right rest),
      require_due (left ++ (codes " >= " ++ (right ++ (10 ∷ rest)))) n,
      short_sum_forth products ps left r.left (codes " >= " ++ (right ++ (10 ∷ rest))) n i a (blank_stops (62 ∷ 61 ∷ 32 ∷ (right ++ (10 ∷ rest)))) refl,
      least_between (right ++ (10 ∷ rest)) n,
      short_sum_forth products ps right r.right (10 ∷ rest) n i b (end_stops rest) refl,
      end_forth rest n,
    ) refl

-- no line is left
none_left : {A : Type 0} (keyword : List ℕ) (line : Cursor → Step (A × Cursor)) (room : ℕ) (done : List A) (rest : List ℕ) (n : ℕ) → bytes_eq (first_word rest) keyword ≡ false → several keyword line room done (cursor n rest) ≡ Ok (done ++ [], cursor n rest)
none_left {A} keyword line room done rest n h =
    several_over keyword line room done (cursor n rest) h ∙ ap (λ xs. let r : Step (List A × Cursor) = Ok (xs, cursor n rest) in r) (sym (append-nil done))

requirements_forth : (products : Bool) (ps : List Parameter) (room : ℕ) (done : List Requirement) (lines : List ℕ) (rs : List meaning.Requirement) (rest : List ℕ) (n : ℕ) → AreNamed ps → AreRequirementLines products ps lines rs → length rs ≤ room → bytes_eq (first_word rest) (codes "require") ≡ false
    → ReadsLines (several (codes "require") (requirement_line products ps) room done) requirement_meant done lines rs rest n
requirements_forth products ps room done lines rs rest n i no_requirement l h = record { read = []; line = n; is_read = none_left (codes "require") (requirement_line products ps) room done rest n h; is_meant = refl }
requirements_forth products ps zero done lines rs rest n i (a_requirement {rs = others} r a b more) l h = absurd (omega arith)
requirements_forth products ps (suc room) done lines rs rest n i (a_requirement {left = left} {right = right} {lines = after} {rs = others} r a b more) l h =
    let own : Requirement = requirement_of r.left r.right n in
    let line = requirement_line products ps in
    let behind = requirements_forth products ps room (done ++ own ∷ []) after others rest (n + 1) i more (omega (arith, l)) h in
    record {
      read = own ∷ behind.read;
      line = behind.line;
      is_read = ap (λ bytes. several (codes "require") line (suc room) done (cursor n bytes)) (append_assoc (requirement_text left right) after rest)
          ∙ several_more (codes "require") line room done (cursor n (requirement_text left right ++ (after ++ rest))) (cursor (n + 1) (after ++ rest)) own refl (requirement_forth products ps left right r (after ++ rest) n i a b)
          ∙ behind.is_read ∙ appended done own behind.read (cursor behind.line rest);
      is_meant = ap (λ others. r ∷ others) behind.is_meant;
    }

values_due : (rest : List ℕ) (n : ℕ) → due_blank Conditions (codes "values") (cursor n (codes "values " ++ rest)) ≡ Ok (cursor n rest)
unfolding due_blank due expect
values_due rest n = refl

-- the names of buffer parameters are identifiers
buffer_named : (before : ℕ) (ps : List Parameter) (name : List ℕ) (n : ℕ) → AreNamed ps → buffer_number before ps name ≡ Some n → is_identifier name ≡ true
buffer_named before [] name n i h = absurd cc
buffer_named before (Value k site own ∷ ps) name n i h = buffer_named before ps name n i.1 h
buffer_named before (Buffer constant k site own ∷ ps) name n i h =
    cond_both (bytes_eq own name) (Some before) (buffer_number (before + 1) ps name) (λ o. o ≡ Some n → is_identifier name ≡ true)
    (λ same _. subst (λ w. is_identifier w ≡ true) ((bytes_eq-Decides own name).0 same) i.0) (λ _ e. buffer_named (before + 1) ps name n i.1 e) h

buffer_forth : (ps : List Parameter) (name : List ℕ) (b : ℕ) (rest : List ℕ) (n : ℕ) → AreNamed ps → buffer_number 0 ps name ≡ Some b → prefix_len is_word_byte rest ≡ 0 → buffer_at ps (cursor n (name ++ rest)) ≡ Ok (b, cursor n rest)
unfolding buffer_at
buffer_forth ps name b rest n i h s = rw (name_forth name rest n (buffer_named 0 ps name b i h) s, h) refl

side_forth : (u : Bool) (rest : List ℕ) (n : ℕ) → end_at (cursor n (end_text u ++ rest)) ≡ Ok (u, cursor n rest)
unfolding end_at expect
side_forth true rest n = refl
side_forth false rest n = refl

side_ends : (u : Bool) (rest : List ℕ) → prefix_len is_word_byte (end_text u ++ rest) ≡ 0
side_ends true rest = refl
side_ends false rest = refl

content_forth : (ps : List Parameter) (name sum : List ℕ) (x : meaning.Content) (rest : List ℕ) (n : ℕ) → AreNamed ps → buffer_number 0 ps name ≡ Some x.buffer → IsShortSum true ps sum x.sum
    → content_line ps (cursor n (content_text name x.is_upper sum ++ rest)) ≡ Ok (content_of x.buffer x.is_upper x.sum n, cursor (n + 1) rest)
unfolding content_line
content_forth ps name sum x rest n i b h =
    let side = end_text x.is_upper in
    rw (
      sym (content_shape name side sum rest),
      values_due (name ++ (side ++ (sum ++ (10 ∷ rest)))) n,
      buffer_forth ps name x.buffer (side ++ (sum ++ (10 ∷ rest))) n i b (side_ends x.is_upper (sum ++ (10 ∷ rest))),
      side_forth x.is_upper (sum ++ (10 ∷ rest)) n,
      short_sum_forth true ps sum x.sum (10 ∷ rest) n i h (end_stops rest) refl,
      end_forth rest n,
    ) refl

contents_forth : (ps : List Parameter) (room : ℕ) (done : List ContentLine) (lines : List ℕ) (xs : List meaning.Content) (rest : List ℕ) (n : ℕ) → AreNamed ps → AreContentLines true ps lines xs → length xs ≤ room → bytes_eq (first_word rest) (codes "values") ≡ false
    → ReadsLines (several (codes "values") (content_line ps) room done) content_meant done lines xs rest n
contents_forth ps room done lines xs rest n i no_content l h = record { read = []; line = n; is_read = none_left (codes "values") (content_line ps) room done rest n h; is_meant = refl }
contents_forth ps zero done lines xs rest n i (a_content {xs = others} name x has b s more) l h = absurd (omega arith)
contents_forth ps (suc room) done lines xs rest n i (a_content {sum = sum} {lines = after} {xs = others} name x has b s more) l h =
    let own : ContentLine = content_of x.buffer x.is_upper x.sum n in
    let behind = contents_forth ps room (done ++ own ∷ []) after others rest (n + 1) i more (omega (arith, l)) h in
    record {
      read = own ∷ behind.read;
      line = behind.line;
      is_read = ap (λ bytes. several (codes "values") (content_line ps) (suc room) done (cursor n bytes)) (append_assoc (content_text name x.is_upper sum) after rest)
          ∙ several_more (codes "values") (content_line ps) room done (cursor n (content_text name x.is_upper sum ++ (after ++ rest))) (cursor (n + 1) (after ++ rest)) own refl (content_forth ps name sum x (after ++ rest) n i b s)
          ∙ behind.is_read ∙ appended done own behind.read (cursor behind.line rest);
      is_meant = ap (λ others. x ∷ others) behind.is_meant;
    }

held_forth : (is_two : Bool) (ps : List Parameter) (lines : List ℕ) (xs : List meaning.Content) (rest : List ℕ) (n : ℕ) → AreNamed ps → AreContentLines is_two ps lines xs → length xs ≤ 16 → bytes_eq (first_word rest) (codes "values") ≡ false
    → ReadsLines (content_lines is_two ps) content_meant [] lines xs rest n
unfolding content_lines
held_forth true ps lines xs rest n i a l h = contents_forth ps 16 [] lines xs rest n i a l h
held_forth false ps lines xs rest n i no_content l h = record { read = []; line = n; is_read = refl; is_meant = refl }
held_forth false ps lines xs rest n i (a_content name x has b s more) l h = absurd cc

-- another line comes behind the requirements
no_requirement_next : (is_two : Bool) (ps : List Parameter) (lines : List ℕ) (xs : List meaning.Content) (last : List ℕ) → AreContentLines is_two ps lines xs → bytes_eq (first_word last) (codes "require") ≡ false → bytes_eq (first_word (lines ++ last)) (codes "require") ≡ false
no_requirement_next is_two ps lines xs last no_content h = h
no_requirement_next is_two ps lines xs last (a_content name x has b s more) h = refl

budget_forth : (m : ℕ) (n : ℕ) → 1 ≤ m → m ≤ 1000000000000 → budget_line (cursor n (budget_text m)) ≡ Ok (m, cursor (n + 1) [])
unfolding budget_line
budget_forth m n a b =
    rw (budget_due (decimal m ++ 10 ∷ []) n, natural_forth 1 1000000000000 m (10 ∷ []) n a b (omega arith) refl, end_forth [] n) refl

-- a text that opens as one of version 3 is read as one
third_forth : (may products : Bool) (opening rest : List ℕ) (o : IsOpening products opening) → (products ≡ true → may ≡ true) → is_three o ≡ true → is_third may (cursor 1 (opening ++ rest)) ≡ true
third_forth may products opening rest one h so = absurd cc
third_forth may products opening rest two h so = absurd cc
third_forth true products opening rest (three head is) h so = refl
third_forth false products opening rest (three head is) h so = let k = h refl in absurd cc

last_forth : (p q : Bool) (line : List ℕ) (m n : ℕ) → (p ≡ true → q ≡ true) → IsBudget p line m → (k : ℕ) × (budget_at q (cursor n line) ≡ Ok (m, cursor k []))
unfolding budget_at
last_forth p true line m n f (given w a b) = (n + 1, budget_forth m n a b)
last_forth p false line m n f (given w a b) = (n + 1, budget_forth m n a b)
last_forth p true line m n f greatest = (n, refl)
last_forth p false line m n f greatest = let k = f refl in absurd cc

-- neither a requirement nor a line of values
no_other_last : (p : Bool) (line : List ℕ) (m : ℕ) → IsBudget p line m → (bytes_eq (first_word line) (codes "require") ≡ false) × (bytes_eq (first_word line) (codes "values") ≡ false)
no_other_last p line m (given w a b) = (refl, refl)
no_other_last p line m greatest = (refl, refl)

made : (c : meaning.Conditions) (groups : Three Range) (arguments : List Range) (lengths : List (List Summand)) (requires : List meaning.Requirement) (contents : List meaning.Content) → groups ≡ c.groups → arguments ≡ c.arguments → lengths ≡ c.lengths → requires ≡ c.requires → contents ≡ c.contents
    → (let d : meaning.Conditions = record { groups = groups; arguments = arguments; lengths = lengths; requires = requires; contents = contents; budget = c.budget } in d ≡ c)
made c groups arguments lengths requires contents p q r s t = rw (p, q, r, s, t) refl

lines_forth : (may products : Bool) (ps : List Parameter) (text : List ℕ) (c : meaning.Conditions) → AreNamed ps → (products ≡ true → may ≡ true) → AreConditionsLines products ps text c → (l : Lined) × (conditions_at may ps (cursor 1 text) ≡ Ok l) × (meant l ≡ c)
unfolding conditions_at
lines_forth may products ps text c i may_have t =
    let last : List ℕ = t.budget_line in
    let others = no_other_last (is_three t.opens) last c.budget t.budget in
    let behind_requires : List ℕ = t.content_lines ++ last in
    let behind_lengths : List ℕ = t.requirement_lines ++ behind_requires in
    let behind_arguments : List ℕ = t.length_lines ++ behind_lengths in
    let body : List ℕ = t.argument_lines ++ behind_arguments in
    let version = version_forth may products t.opening (groups_text c.groups ++ body) t.opens refl may_have in
    let groups = groups_forth c.groups body version.0 t.counts_x t.counts_y t.counts_z t.few_groups in
    let arguments = arguments_forth ps [] ps t.argument_lines c.arguments behind_arguments (version.0 + 1) i t.arguments in
    let lengths = lengths_forth products ps [] ps t.length_lines c.lengths behind_lengths arguments.line i i t.lengths in
    let requires = requirements_forth products ps 16 [] t.requirement_lines c.requires behind_requires lengths.line i t.requires t.few_requires (no_requirement_next products ps t.content_lines c.contents last t.contents others.0) in
    let contents = held_forth products ps t.content_lines c.contents last requires.line i t.contents t.few_contents others.1 in
    let all : List ℕ = t.opening ++ (groups_text c.groups ++ body) in
    let budget = last_forth (is_three t.opens) (is_third may (cursor 1 all)) last c.budget contents.line (third_forth may products t.opening (groups_text c.groups ++ body) t.opens may_have) t.budget in (
      lined groups.groups version.0 arguments.read lengths.read requires.read contents.read c.budget,
      rw (
        t.is_text,
        version.1,
        groups.is_read,
        arguments.is_read,
        lengths.is_read,
        requires.is_read,
        contents.is_read,
        budget.1,
        end_text_forth budget.0,
      ) refl,
      made c _ _ _ _ _ groups.is_meant arguments.is_meant lengths.is_meant requires.is_meant contents.is_meant,
    )

-- the names of a kernel's text are names of parameters
pub spelt_names : (ps : List Parameter) → SpellsParameters ps → AreNamed ps
spelt_names [] h = tt
spelt_names (Buffer constant k site name ∷ ps) h = (h.0, spelt_names ps h.1)
spelt_names (Value k site name ∷ ps) h = (h.0, spelt_names ps h.1)

pub conditions_forth : (may : Bool) (ps : List Parameter) (text : List ℕ) (c : meaning.Conditions) → SpellsParameters ps → IsConditionsText may ps text c → (l : Lined) × (conditions_of may ps text ≡ Ok l) × (meant l ≡ c)
conditions_forth may ps text c i t =
    let l = lines_forth may t.has_products ps text c (spelt_names ps i) t.may_have t.lines in
    (l.0, cond-false (nat_lt conditions_limit (length text)) _ _ (not_above conditions_limit (length text) t.within_limit) ∙ l.1, l.2)

pub head_forth_of : (may : Bool) (ps : List Parameter) (text : List ℕ) (c : meaning.Conditions) (t : IsConditionsText may ps text c) → head_of text ≡ Ok (head_in t.lines.opens)
head_forth_of may ps text c t =
    let l = t.lines in
    let body : List ℕ = l.argument_lines ++ (l.length_lines ++ (l.requirement_lines ++ (l.content_lines ++ l.budget_line))) in
    cond-false (nat_lt conditions_limit (length text)) _ _ (not_above conditions_limit (length text) t.within_limit)
    ∙ ap (λ bytes. head_behind (cursor 1 bytes)) l.is_text ∙ behind_forth t.has_products l.opening (groups_text c.groups ++ body) l.opens refl

pub one_meaning : (may : Bool) (ps : List Parameter) (text : List ℕ) (c d : meaning.Conditions) → SpellsParameters ps → IsConditionsText may ps text c → IsConditionsText may ps text d → c ≡ d
one_meaning may ps text c d i t u =
    let l = conditions_forth may ps text c i t in
    let m = conditions_forth may ps text d i u in
    sym l.2 ∙ ap meant (same_back l.0 m.0 (sym l.1 ∙ m.1)) ∙ m.2
