-- The sites of a finding, one after another.
use Rattle.std.proofs.Common.{◌≡◌, ℕ, ◌+◌, ◌<◌, ◌≤◌, List, ◌++◌, length, drop, get_or, map, Some, None, ap, sym, ◌∙◌, append_assoc}
use Rattle.std.specs.List.{slice_get}
use Rattle.std.specs.Option.{option_map}
use Rattle.std.proofs.lemmas.List.{drop_more, drop_all, append-nil}
use Rattle.std.proofs.lemmas.Option.{slice_get-map}
use Rattle.findings.specs.Findings as findings
use Rattle.findings.specs.View.{spot, work_item}
use Rattle.findings.specs.Wording.{separator, spot_text, item_text, sites_text}
use Rattle.findings.specs.declared.finding.Spot.{Spot}
use Rattle.findings.specs.declared.finding.WorkItem.{WorkItem}

pub seen_item : (items : List WorkItem) (n : ℕ) (i : WorkItem) → slice_get items n ≡ Some i → slice_get (map work_item items) n ≡ Some (work_item i)
seen_item items n i h = slice_get-map work_item items n ∙ ap (option_map work_item) h

pub no_item : (items : List WorkItem) (n : ℕ) → slice_get items n ≡ None → slice_get (map work_item items) n ≡ None
no_item items n h = slice_get-map work_item items n ∙ ap (option_map work_item) h

joined : (out a b c rest : List ℕ) → (((out ++ a) ++ b) ++ c) ++ rest ≡ out ++ (a ++ (b ++ (c ++ rest)))
joined out a b c rest = append_assoc ((out ++ a) ++ b) c rest ∙ append_assoc (out ++ a) b (c ++ rest) ∙ append_assoc out a (b ++ (c ++ rest))

pub one_site : (xs : List Spot) (items : List findings.WorkItem) (i : ℕ) (x : Spot) (out first second new whole : List ℕ) → i < length xs → x ≡ get_or xs i x → first ≡ out ++ separator i → second ≡ first ++ spot_text (spot x) → new ≡ second ++ item_text (slice_get items i) → out ++ sites_text i (map spot (drop i xs)) items ≡ whole → new ++ sites_text (i + 1) (map spot (drop (i + 1) xs)) items ≡ whole
one_site xs items i x out first second new whole h e p q r w =
    let rest = sites_text (i + 1) (map spot (drop (i + 1) xs)) items in
    ap (λ t. t ++ rest) (r ∙ ap (λ t. t ++ item_text (slice_get items i)) (q ∙ ap (λ t. t ++ spot_text (spot x)) p))
    ∙ joined out (separator i) (spot_text (spot x)) (item_text (slice_get items i)) rest
    ∙ ap (λ y. out ++ (separator i ++ (spot_text (spot y) ++ (item_text (slice_get items i) ++ rest)))) e
    ∙ ap (λ ys. out ++ sites_text i (map spot ys) items) (sym (drop_more xs i x h))
    ∙ w

pub no_site : (xs : List Spot) (items : List findings.WorkItem) (i : ℕ) (out whole : List ℕ) → length xs ≤ i → out ++ sites_text i (map spot (drop i xs)) items ≡ whole → out ≡ whole
no_site xs items i out whole h q = sym (append-nil out) ∙ ap (λ ys. out ++ sites_text i (map spot ys) items) (sym (drop_all i xs h)) ∙ q
