-- Conditions that are read are of the kernel for which they are read.
use Rattle.std.proofs.Common.{◌≡◌, ℕ, zero, suc, nat_le, nat_lt, ◌*◌, ◌<◌, List, [], ◌∷◌, ◌++◌, length, map, Bool, true, false, Option, Some, None, Ok, refl, ap, ◌∙◌, subst, inl, inr, ◌⊎◌, arith}
use Rattle.std.specs.Prelude.{int_le, codes, bytes_eq}
use Rattle.std.specs.List.{All, AllZip}
use Rattle.std.proofs.lemmas.Bool.{cond_both}
use Rattle.std.proofs.lemmas.List.{length-map, map_push}
use Rattle.std.proofs.lemmas.List.Elements.{All-nil, All-cons, All-push}
use Rattle.semantics.specs.Word.{Kind}
use Rattle.semantics.specs.Launch.{Kernel, Three}
use Rattle.semantics.specs.Conditions as meaning
use Rattle.semantics.specs.Conditions.{IsNamed}
use Rattle.texts.specs.Surface.{Parameter, Buffer, Value}
use Rattle.launch_text.specs.LaunchFaults.{Expected, UnknownName, LimitPassed, Cursor, Step, cursor, refused, then, expect, end_line}
use Rattle.launch_text.specs.LaunchWords.{natural_at, word_at, name_at, is_known, end_text, due_blank, due_parameter, first_word, several}
use Rattle.launch_text.specs.LaunchSums.{sum_at, buffer_number, buffer_found, buffer_at}
use Rattle.launch_text.specs.ConditionsReading.{CountRange, ArgumentRange, Length, Requirement, ContentLine, Lined, length_meant, requirement_meant, content_meant, counts_at, three_counts_at, groups_line, argument_at, argument_line, argument_due, argument_lines, length_of, length_line, length_due, length_lines, requirement_line, requirement_lines, end_at, content_of, content_line, content_lines, budget_at, lined, version_line, is_third, conditions_at, conditions_of}
use Rattle.launch_text.specs.Fits.{AreCounts, IsRange, IsLength, IsOf}
use Rattle.launch_text.proofs.Back.{then_back, same_back, when_back, unless_back, natural_back, word_back}
use Rattle.kernel_names.specs.Parameters.{kinds, value_kind, buffer_kind}
use Rattle.launch_text.proofs.Parameters.{buffer_below, Skips, Reads, each_back}
use Rattle.launch_text.proofs.FitsRead.{sum_named}

counts_fit : (c : Cursor) (t : CountRange × Cursor) → counts_at c ≡ Ok t → AreCounts t.0
unfolding counts_at
counts_fit c t e =
    let low = then_back (natural_at 1 65536 c) _ t e in
    let d = then_back (expect _ low.0.1) _ t low.2 in
    let high = then_back (natural_at 1 65536 d.0) _ t d.2 in
    let order = when_back (nat_le low.0.0 high.0.0) _ _ high.0.1 t high.2 in
    let q : (record { low = low.0.0; high = high.0.0 }, high.0.1) ≡ t = cc in
    subst (λ (r : CountRange × Cursor). AreCounts r.0) q (natural_back 1 65536 c low.0 low.1, natural_back 1 65536 d.0 high.0 high.1)

abbrev AreThree : Three CountRange → Type 0
AreThree t = AreCounts t.x × AreCounts t.y × AreCounts t.z

three_fit : (c : Cursor) (t : Three CountRange × Cursor) → three_counts_at c ≡ Ok t → AreThree t.0
unfolding three_counts_at
three_fit c t e =
    let x = then_back (counts_at c) _ t e in
    let d = then_back (expect _ x.0.1) _ t x.2 in
    let y = then_back (counts_at d.0) _ t d.2 in
    let f = then_back (expect _ y.0.1) _ t y.2 in
    let z = then_back (counts_at f.0) _ t f.2 in
    let q : (record { x = x.0.0; y = y.0.0; z = z.0.0 }, z.0.1) ≡ t = cc in
    subst (λ (r : Three CountRange × Cursor). AreThree r.0) q (counts_fit c x.0 x.1, counts_fit d.0 y.0 y.1, counts_fit f.0 z.0 z.1)

groups_fit : (c : Cursor) (t : Three CountRange × Cursor) → groups_line c ≡ Ok t → AreThree t.0
unfolding groups_line
groups_fit c t e =
    let a = then_back (due_blank _ _ c) _ t e in
    let b = then_back (three_counts_at a.0) _ t a.2 in
    let f = unless_back (nat_lt 1048576 (b.0.0.x.high * b.0.0.y.high * b.0.0.z.high)) _ _ b.0.1 t b.2 in
    let d = then_back (end_line b.0.1) _ t f.1 in
    let q : (b.0.0, d.0) ≡ t = cc in
    subst (λ (r : Three CountRange × Cursor). AreThree r.0) q (three_fit a.0 b.0 b.1)

range_fits : (k : Kind) (c : Cursor) (t : ArgumentRange × Cursor) → argument_at k c ≡ Ok t → IsRange k t.0
unfolding argument_at
range_fits k c t e =
    let low = then_back (word_at k c) _ t e in
    let d = then_back (expect _ low.0.1) _ t low.2 in
    let high = then_back (word_at k d.0) _ t d.2 in
    let order = when_back (int_le low.0.0.value high.0.0.value) _ _ high.0.1 t high.2 in
    let q : (record { low = low.0.0; high = high.0.0; line = c.line }, high.0.1) ≡ t = cc in
    subst (λ (r : ArgumentRange × Cursor). IsRange k r.0) q (word_back k c low.0 low.1, word_back k d.0 high.0 high.1)

argument_fits : (ps : List Parameter) (k : Kind) (name : List ℕ) (c : Cursor) (t : ArgumentRange × Cursor) → argument_line ps k name c ≡ Ok t → IsRange k t.0
unfolding argument_line
argument_fits ps k name c t e =
    let a = then_back (due_parameter _ _ ps name c) _ t e in
    let b = then_back (argument_at k a.0) _ t a.2 in
    let d = then_back (end_line b.0.1) _ t b.2 in
    let q : (b.0.0, d.0) ≡ t = cc in
    subst (λ (r : ArgumentRange × Cursor). IsRange k r.0) q (range_fits k a.0 b.0 b.1)

argument_one : (ps : List Parameter) (done : List ArgumentRange) (p : Parameter) → Skips (argument_due ps) value_kind done p ⊎ Reads (argument_due ps) value_kind IsRange done p
argument_one ps done (Buffer constant k site name) = inl (record { no_line = refl; no_kind = refl })
argument_one ps done (Value k site name) = inr (record { own = argument_line ps k name; kind = k; is_line = refl; is_kind = refl; good = argument_fits ps k name })

abbrev IsLengthOf : Kernel → Kind → Length → Type 0
IsLengthOf kernel k l = (l.kind ≡ k) × All (IsNamed kernel) l.least

length_fits : (products : Bool) (kernel : Kernel) (ps : List Parameter) → kernel.arguments ≡ kinds value_kind ps → (k : Kind) (name : List ℕ) (c : Cursor) (t : Length × Cursor) → length_line products ps k name c ≡ Ok t → IsLengthOf kernel k t.0
unfolding length_line
length_fits products kernel ps own k name c t e =
    let a = then_back (due_parameter _ _ ps name c) _ t e in
    let b = then_back (expect _ a.0) _ t a.2 in
    let s = then_back (sum_at products ps 8 [] b.0) _ t b.2 in
    let d = then_back (end_line s.0.1) _ t s.2 in
    let q : (length_of k s.0.0 c.line, d.0) ≡ t = cc in
    subst (λ (r : Length × Cursor). IsLengthOf kernel k r.0) q (refl, sum_named products kernel ps own 8 [] b.0 s.0 (All-nil (IsNamed kernel)) s.1)

length_one : (products : Bool) (kernel : Kernel) (ps : List Parameter) → kernel.arguments ≡ kinds value_kind ps → (done : List Length) (p : Parameter) → Skips (length_due products ps) buffer_kind done p ⊎ Reads (length_due products ps) buffer_kind (IsLengthOf kernel) done p
length_one products kernel ps own done (Buffer constant k site name) = inr (record { own = length_line products ps k name; kind = k; is_line = refl; is_kind = refl; good = length_fits products kernel ps own k name })
length_one products kernel ps own done (Value k site name) = inl (record { no_line = refl; no_kind = refl })

abbrev IsRequirementOf : Kernel → meaning.Requirement → Type 0
IsRequirementOf kernel r = All (IsNamed kernel) r.left × All (IsNamed kernel) r.right

requirement_fits : (products : Bool) (kernel : Kernel) (ps : List Parameter) → kernel.arguments ≡ kinds value_kind ps → (c : Cursor) (t : Requirement × Cursor) → requirement_line products ps c ≡ Ok t → IsRequirementOf kernel (requirement_meant t.0)
unfolding requirement_line
requirement_fits products kernel ps own c t e =
    let a = then_back (due_blank _ _ c) _ t e in
    let left = then_back (sum_at products ps 8 [] a.0) _ t a.2 in
    let b = then_back (expect _ left.0.1) _ t left.2 in
    let right = then_back (sum_at products ps 8 [] b.0) _ t b.2 in
    let d = then_back (end_line right.0.1) _ t right.2 in
    let q : (record { left = left.0.0; right = right.0.0; line = c.line }, d.0) ≡ t = cc in
    subst (λ (r : Requirement × Cursor). IsRequirementOf kernel (requirement_meant r.0)) q
    (sum_named products kernel ps own 8 [] a.0 left.0 (All-nil (IsNamed kernel)) left.1, sum_named products kernel ps own 8 [] b.0 right.0 (All-nil (IsNamed kernel)) right.1)

abbrev IsContentOf : Kernel → meaning.Content → Type 0
IsContentOf kernel x = (x.buffer < length kernel.buffers) × All (IsNamed kernel) x.sum

-- the buffer that is found is one of the kernel
found_below : (kernel : Kernel) (ps : List Parameter) → kernel.buffers ≡ kinds buffer_kind ps → (name : List ℕ) (o : Option ℕ) (c : Cursor) (t : ℕ × Cursor) → buffer_number 0 ps name ≡ o → buffer_found ps name o c ≡ Ok t → t.0 < length kernel.buffers
found_below kernel ps shared name (Some n) c t h e =
    let q : (n, c) ≡ t = cc in
    subst (λ (r : ℕ × Cursor). r.0 < length kernel.buffers) q (omega (arith, buffer_below 0 ps name n h, ap length shared))
found_below kernel ps shared name None c t h e =
    cond_both (is_known ps name) (refused Expected c) (refused UnknownName c) (λ s. s ≡ Ok t → t.0 < length kernel.buffers) (λ _ f. absurd cc) (λ _ f. absurd cc) e

buffer_fits : (kernel : Kernel) (ps : List Parameter) → kernel.buffers ≡ kinds buffer_kind ps → (c : Cursor) (t : ℕ × Cursor) → buffer_at ps c ≡ Ok t → t.0 < length kernel.buffers
unfolding buffer_at
buffer_fits kernel ps shared c t e =
    let n = then_back (name_at c) _ t e in
    found_below kernel ps shared n.0.0 (buffer_number 0 ps n.0.0) n.0.1 t refl n.2

content_fits : (kernel : Kernel) (ps : List Parameter) → kernel.arguments ≡ kinds value_kind ps → kernel.buffers ≡ kinds buffer_kind ps → (c : Cursor) (t : ContentLine × Cursor) → content_line ps c ≡ Ok t → IsContentOf kernel (content_meant t.0)
unfolding content_line
content_fits kernel ps own shared c t e =
    let a = then_back (due_blank _ _ c) _ t e in
    let b = then_back (buffer_at ps a.0) _ t a.2 in
    let u = then_back (end_at b.0.1) _ t b.2 in
    let s = then_back (sum_at true ps 8 [] u.0.1) _ t u.2 in
    let d = then_back (end_line s.0.1) _ t s.2 in
    let q : (content_of b.0.0 u.0.0 s.0.0 c.line, d.0) ≡ t = cc in
    subst (λ (r : ContentLine × Cursor). IsContentOf kernel (content_meant r.0)) q
    (buffer_fits kernel ps shared a.0 b.0 b.1, sum_named true kernel ps own 8 [] u.0.1 s.0 (All-nil (IsNamed kernel)) s.1)

module _ {A B : Type 0} (P : B → Type 0) (view : A → B) (keyword : List ℕ) (line : Cursor → Step (A × Cursor)) (one : (c : Cursor) (t : A × Cursor) → line c ≡ Ok t → P (view t.0)) where
  kept : (done : List A) (c : Cursor) (t : List A × Cursor) → All P (map view done) → (let s : Step (List A × Cursor) = Ok (done, c) in s ≡ Ok t) → All P (map view t.0)
  kept done c t h e = let q : (done, c) ≡ t = cc in subst (λ (r : List A × Cursor). All P (map view r.0)) q h

  several_fit : (room : ℕ) (done : List A) (c : Cursor) (t : List A × Cursor) → All P (map view done) → several keyword line room done c ≡ Ok t → All P (map view t.0)
  unfolding several
  several_fit zero done c t h =
      cond_both (bytes_eq (first_word c.rest) keyword) (refused LimitPassed c) (Ok (done, c)) (λ s. s ≡ Ok t → All P (map view t.0))
      (λ _ e. absurd cc) (λ _ e. kept done c t h e)
  several_fit (suc room) done c t h =
      cond_both (bytes_eq (first_word c.rest) keyword) (then (line c) (λ u. several keyword line room (done ++ u.0 ∷ []) u.1)) (Ok (done, c)) (λ s. s ≡ Ok t → All P (map view t.0))
      (λ _ e. let u = then_back (line c) _ t e in
      several_fit room (done ++ u.0.0 ∷ []) u.0.1 t (rw map_push (All-push P (map view done) (view u.0.0) h (one c u.0 u.1))) u.2)
      (λ _ e. kept done c t h e)

contents_fit : (is_two : Bool) (kernel : Kernel) (ps : List Parameter) → kernel.arguments ≡ kinds value_kind ps → kernel.buffers ≡ kinds buffer_kind ps → (c : Cursor) (t : List ContentLine × Cursor) → content_lines is_two ps c ≡ Ok t → All (IsContentOf kernel) (map content_meant t.0)
unfolding content_lines
contents_fit true kernel ps own shared c t e =
    several_fit (IsContentOf kernel) content_meant (codes "values") (content_line ps) (content_fits kernel ps own shared) 16 [] c t (All-nil (IsContentOf kernel)) e
contents_fit false kernel ps own shared c t e =
    let q : ([], c) ≡ t = cc in
    subst (λ (r : List ContentLine × Cursor). All (IsContentOf kernel) (map content_meant r.0)) q (All-nil (IsContentOf kernel))

zip_length : {A B : Type 0} (P : A → B → Type 0) (xs : List A) (ys : List B) → AllZip P xs ys → length ys ≡ length xs
zip_length P [] [] h = refl
zip_length P [] (y ∷ ys) h = absurd h
zip_length P (x ∷ xs) [] h = absurd h
zip_length P (x ∷ xs) (y ∷ ys) h = ap suc (zip_length P xs ys h.1)

lengths_split : (kernel : Kernel) (ks : List Kind) (ls : List Length) → AllZip (IsLengthOf kernel) ks ls → AllZip IsLength ks ls × All (All (IsNamed kernel)) (map length_meant ls)
lengths_split kernel [] [] h = (tt, All-nil (All (IsNamed kernel)))
lengths_split kernel [] (l ∷ ls) h = absurd h
lengths_split kernel (k ∷ ks) [] h = absurd h
lengths_split kernel (k ∷ ks) (l ∷ ls) h =
    let more = lengths_split kernel ks ls h.1 in
    ((h.0.0, more.0), All-cons (All (IsNamed kernel)) l.least (map length_meant ls) h.0.1 more.1)

lines_fit : (may : Bool) (kernel : Kernel) (ps : List Parameter) → kernel.arguments ≡ kinds value_kind ps → kernel.buffers ≡ kinds buffer_kind ps → (c : Cursor) (x : Lined) → conditions_at may ps c ≡ Ok x → IsOf kernel x
unfolding conditions_at
lines_fit may kernel ps own shared c x e =
    let version = then_back (version_line may c) _ x e in
    let products = version.0.0 in
    let head = version.0.1 in
    let groups = then_back (groups_line head) _ x version.2 in
    let arguments = then_back (argument_lines ps groups.0.1) _ x groups.2 in
    let lengths = then_back (length_lines products ps arguments.0.1) _ x arguments.2 in
    let requires = then_back (requirement_lines products ps lengths.0.1) _ x lengths.2 in
    let contents = then_back (content_lines products ps requires.0.1) _ x requires.2 in
    let budget = then_back (budget_at (is_third may c) contents.0.1) _ x contents.2 in
    let end = then_back (end_text budget.0.1) _ x budget.2 in
    let q : lined groups.0.0 head.line arguments.0.0 lengths.0.0 requires.0.0 contents.0.0 budget.0.0 ≡ x = same_back _ x end.2 in
    let counts = groups_fit head groups.0 groups.1 in
    let ranges : AllZip IsRange kernel.arguments arguments.0.0 = rw own (each_back (argument_due ps) value_kind IsRange (argument_one ps) [] [] ps groups.0.1 arguments.0 tt arguments.1) in
    let least : AllZip (IsLengthOf kernel) kernel.buffers lengths.0.0 = rw shared (each_back (length_due products ps) buffer_kind (IsLengthOf kernel) (length_one products kernel ps own) [] [] ps arguments.0.1 lengths.0 tt lengths.1) in
    let split = lengths_split kernel kernel.buffers lengths.0.0 least in
    subst (λ (y : Lined). IsOf kernel y) q (record {
      counts_x = counts.0;
      counts_y = counts.1;
      counts_z = counts.2;
      arguments = ranges;
      lengths = split.0;
      fit = record {
        arguments = length-map arguments.0.0 _ ∙ zip_length IsRange kernel.arguments arguments.0.0 ranges;
        lengths = length-map lengths.0.0 length_meant ∙ zip_length (IsLengthOf kernel) kernel.buffers lengths.0.0 least;
        sums = split.1;
        requires = several_fit (IsRequirementOf kernel) requirement_meant (codes "require") (requirement_line products ps) (requirement_fits products kernel ps own) 16 [] lengths.0.1 requires.0 (All-nil (IsRequirementOf kernel)) requires.1;
        contents = contents_fit products kernel ps own shared requires.0.1 contents.0 contents.1;
      };
    })

pub conditions_fit : (may : Bool) (kernel : Kernel) (ps : List Parameter) → kernel.arguments ≡ kinds value_kind ps → kernel.buffers ≡ kinds buffer_kind ps → (text : List ℕ) (x : Lined) → conditions_of may ps text ≡ Ok x → IsOf kernel x
conditions_fit may kernel ps own shared text x e =
    lines_fit may kernel ps own shared (cursor 1 text) x (unless_back (nat_lt 65536 (length text)) (conditions_at may ps (cursor 1 text)) LimitPassed (cursor 1 text) x e).1
