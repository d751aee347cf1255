-- The lines of version 2 of places, bounds and entries, by what their code has.
use Rattle.std.specs.Prelude.{ℕ, List, [], ◌∷◌, ◌++◌, map, codes}
use Rattle.std.specs.List.{flat_map}
use Rattle.std.specs.Fmt.{decimal, signed_decimal}
use Rattle.linear.specs.Linear.{Form}
use Rattle.certificate_text.specs.Certificate.{Name, Congruence, Multiple, Place, Bound, EntrySort, Show, Positive, Negative, Quotient, Lemma, Entry}
use Rattle.certificate_text.specs.Text.{place_line, same_line, descent_text, step_line, main_lines}
use Rattle.certificate_text.specs.FormTables.{FormTable, number_of}

abbrev pub fact_line : FormTable → Form Name → List ℕ
fact_line forms f = codes "fact " ++ decimal (number_of forms f)

abbrev pub congruence_line : FormTable → Congruence → List ℕ
congruence_line forms c = codes "mod " ++ (decimal c.modulus ++ (codes " " ++ decimal (number_of forms c.form)))

abbrev pub multiple_line : FormTable → Multiple → List ℕ
multiple_line forms m = codes "multiple " ++ (decimal (number_of forms m.form) ++ (codes " of " ++ decimal (number_of forms m.of)))

abbrev pub place_lines : FormTable → Place → List (List ℕ)
place_lines forms p =
    place_line p.spot
    ∷ (map same_line p.same ++ (map (fact_line forms) p.facts ++ (map (congruence_line forms) p.congruences ++ map (multiple_line forms) p.multiples)))

abbrev pub bound_line : FormTable → Bound → List ℕ
bound_line forms b =
    codes "loop " ++ (decimal b.loop ++ (codes " " ++ (descent_text b.descent ++ (codes " " ++ (signed_decimal b.most ++ (codes " " ++ decimal (number_of forms b.form)))))))

abbrev pub sort_text : FormTable → EntrySort → List ℕ
sort_text forms Show = codes "show"
sort_text forms Positive = codes "pos"
sort_text forms Negative = codes "neg"
sort_text forms (Quotient f) = codes "quot " ++ decimal (number_of forms f)

abbrev pub entry_line : FormTable → Entry → List ℕ
entry_line forms e = codes "ob " ++ (decimal e.obligation ++ (codes " " ++ sort_text forms e.sort))

abbrev pub lemma_line : FormTable → Form Name → List ℕ
lemma_line forms f = codes "l " ++ decimal (number_of forms f)

abbrev pub lemma_lines : FormTable → Lemma → List (List ℕ)
lemma_lines forms l = lemma_line forms l.form ∷ map step_line l.steps

abbrev pub entry_lines : FormTable → Entry → List (List ℕ)
entry_lines forms e = entry_line forms e ∷ (flat_map (lemma_lines forms) e.lemmas ++ (main_lines e.lemmas ++ map step_line e.steps))
