-- A text is that of the certificate that it says.
use Rattle.std.proofs.Common.{◌≡◌, ℕ, suc, Bool, true, false, not, ◌&&◌, ◌||◌, List, [], ◌∷◌, ◌++◌, length, map, Option, None, Some, Ok, Err, refl, ap, sym, ◌∙◌, append_assoc}
use Rattle.std.specs.Prelude.{ℤ, pos, codes, bytes_eq, nat_lt}
use Rattle.std.specs.Ordering.{int_eq}
use Rattle.std.specs.List.{join_with_byte}
use Rattle.std.proofs.Common.{arith}
use Rattle.std.proofs.lemmas.Bool.{cond_both}
use Rattle.std.proofs.lemmas.Bool.Decides.{Decides-int_eq}
use Rattle.std.proofs.lemmas.Fmt.{decimal_digit}
use Rattle.std.proofs.lemmas.Grind.{flat_map-append}
use Rattle.std.proofs.lemmas.List.{append-nil, map_push}
use Rattle.std.proofs.lemmas.List.Splits.{join_with_byte-slice_split}
use Rattle.std.proofs.lemmas.Slice.Eq.{bytes_eq-Decides}
use Rattle.lines.specs.Lines.{is_empty, two, pieces, words, text_of_lines, integer_of}
use Rattle.certificate_text.specs.Certificate.{Certificate, CertificateFault, BadLine, OtherVersion}
use Rattle.certificate_text.specs.Text.{body_lines, text_of}
use Rattle.certificate_text.specs.Forms.{number}
use Rattle.certificate_text.specs.Drafts.{Open, Nothing, InPlace, InEntry, InLemma, Ended, Draft, begun, nothing_yet}
use Rattle.certificate_text.specs.Reading.{Read, is_ended, finish, go_on, add_line, read_lines, head_of_version, version_of, head_fault, unless, read_text, certificate_limit, certificate_of}
use Rattle.certificate_text.specs.Rules.{is_narrow, is_written, is_certificate, is_any_certificate}
use Rattle.lines.proofs.Fronts.{both}
use Rattle.lines.proofs.Decimals.{integer_back}
use Rattle.certificate_text.proofs.Cuts.{spaced, then_back, cond_back, number_back, two_back, pieces_back, none_left}
use Rattle.certificate_text.proofs.PartsRead.{andt}
use Rattle.certificate_text.specs.Lines.{EndItem}
use Rattle.certificate_text.specs.Items.{items_of, item_line}
use Rattle.certificate_text.proofs.DraftsRead.{IsRead, draft_items, draft_lines, add_line_back}
use Rattle.certificate_text.proofs.OpenRead.{open_items}
use Rattle.certificate_text.proofs.ItemsNumbered.{lines_are}
use Rattle.certificate_text.proofs.Narrowness.{fit_back}

-- what is left to read, where `so_far` was read
abbrev pub Completes : (is_wide : Bool) (so_far rest : List ℕ) → Certificate → Type 0
Completes is_wide so_far rest c = (so_far ++ rest ≡ text_of_lines (body_lines c ++ codes "end" ∷ [])) × (is_any_certificate c ≡ true) × (c.is_wide ≡ is_wide)

pub joined_more : (line : List ℕ) (others : List (List ℕ)) → is_empty others ≡ false → join_with_byte 10 (line ∷ others) ≡ line ++ (10 ∷ join_with_byte 10 others)
joined_more line [] h = absurd cc
joined_more line (x ∷ xs) h = refl

pub lines_push : (lines : List (List ℕ)) (line rest : List ℕ) → text_of_lines (lines ++ line ∷ []) ++ rest ≡ text_of_lines lines ++ (line ++ (10 ∷ rest))
lines_push lines line rest =
    ap (λ t. t ++ rest) (flat_map-append (λ (l : List ℕ). l ++ 10 ∷ []) lines (line ∷ []) ∙ ap (λ t. text_of_lines lines ++ t) (append-nil (line ++ 10 ∷ [])))
    ∙ append_assoc (text_of_lines lines) (line ++ 10 ∷ []) rest ∙ ap (λ t. text_of_lines lines ++ t) (append_assoc line (10 ∷ []) rest)

pub is_open_end : (o : Open) → is_ended o ≡ true → open_items o ≡ EndItem ∷ []
is_open_end Nothing h = absurd cc
is_open_end (InPlace p) h = absurd cc
is_open_end (InEntry e) h = absurd cc
is_open_end (InLemma e l) h = absurd cc
is_open_end Ended h = refl

-- what was read to its end
pub ended_items : (d : Draft) (c : Certificate) → is_ended d.opened ≡ true → d.settled ≡ c → draft_items d ≡ items_of c ++ EndItem ∷ []
ended_items d c e s = ap (λ t. items_of d.settled ++ t) (is_open_end d.opened e) ∙ ap (λ x. items_of x ++ EndItem ∷ []) s

-- what is settled has a text at any time
pub settled_good : (d : Draft) → IsRead d → is_any_certificate d.settled ≡ true
settled_good d h = andt (d.settled.is_wide || is_narrow d.settled) (is_written d.settled) (fit_back d.settled (open_items d.opened) h.may_join h.fits) h.draft.settled

pub ended_good : (d : Draft) (c : Certificate) → IsRead d → d.settled ≡ c → is_any_certificate c ≡ true
ended_good d c h s = ap is_any_certificate (sym s) ∙ settled_good d h

lines_end : (d : Draft) (c : Certificate) → is_ended d.opened ≡ true → d.settled ≡ c → draft_lines d ≡ body_lines c ++ codes "end" ∷ []
lines_end d c e s = ap (map item_line) (ended_items d c e s) ∙ map_push item_line (items_of c) EndItem ∙ ap (λ ls. ls ++ codes "end" ∷ []) (lines_are c)

finish_back : (n : ℕ) (d : Draft) (line : List ℕ) (c : Certificate) → finish n d line ≡ Ok c → (is_ended d.opened ≡ true) × (line ≡ []) × (d.settled ≡ c)
finish_back n d line c =
    cond_both (is_ended d.opened && is_empty line) (Ok d.settled) (Err (BadLine n)) (λ r. r ≡ Ok c → (is_ended d.opened ≡ true) × (line ≡ []) × (d.settled ≡ c))
    (λ e q. let p = both (is_ended d.opened) (is_empty line) e in (p.0, none_left line p.1, cc))
    (λ e q. absurd cc)

pub went_on : (n : ℕ) (o : Option Draft) (go : Draft → Read) (c : Certificate) → go_on n o go ≡ Ok c → (d : Draft) × (o ≡ Some d) × (go d ≡ Ok c)
went_on n None go c q = absurd cc
went_on n (Some d) go c q = (d, refl, q)

read_back : (n : ℕ) (d : Draft) (ls : List (List ℕ)) (c : Certificate) → IsRead d → read_lines n d ls ≡ Ok c → Completes d.settled.is_wide (text_of_lines (draft_lines d)) (join_with_byte 10 ls) c
read_back n d [] c h = λ q. absurd cc
read_back n d (line ∷ others) c h =
    cond_both (is_empty others) (finish n d line) (go_on n (add_line d line) (λ e. read_lines (suc n) e others)) (λ r. r ≡ Ok c → Completes d.settled.is_wide (text_of_lines (draft_lines d)) (join_with_byte 10 (line ∷ others)) c)
    (λ e q.
    let f = finish_back n d line c q in (
      ap (λ ls. text_of_lines (draft_lines d) ++ join_with_byte 10 (line ∷ ls)) (none_left others e) ∙ ap (λ t. text_of_lines (draft_lines d) ++ t) f.1 ∙ append-nil (text_of_lines (draft_lines d))
          ∙ ap text_of_lines (lines_end d c f.0 f.2),
      ended_good d c h f.2,
      ap (λ (x : Certificate). x.is_wide) (sym f.2),
    ))
    (λ e q.
    let g = went_on n (add_line d line) (λ x. read_lines (suc n) x others) c q in
    let a = add_line_back d line g.0 h g.1 in
    let r = read_back (suc n) g.0 others c a.read g.2 in
    (ap (λ t. text_of_lines (draft_lines d) ++ t) (joined_more line others e) ∙ sym (lines_push (draft_lines d) line (join_with_byte 10 others)) ∙ ap (λ ls. text_of_lines ls ++ join_with_byte 10 others) (sym a.lines) ∙ r.0, r.1, r.2 ∙ a.kind))

version_back : (v : Option ℤ) → head_of_version v ≡ None → v ≡ Some (pos 1)
version_back None = λ q. absurd cc
version_back (Some v) =
    cond_both (int_eq v (pos 1)) None (Some OtherVersion) (λ o. o ≡ None → Some v ≡ Some (pos 1)) (λ e q. ap Some ((Decides-int_eq v (pos 1)).0 e)) (λ e q. absurd cc)

pub first_line : (line : List ℕ) → head_fault (words line) ≡ None → line ≡ codes "certificate 1"
first_line line q =
    let v = version_back (version_of (words line)) q in
    let w = then_back (two (words line)) _ (pos 1) v in
    let c = cond_back (bytes_eq w.0.0 (codes "certificate")) (number (integer_of w.0.1)) (pos 1) w.2 in
    let i = integer_back w.0.1 (pos 1) (number_back (integer_of w.0.1) (pos 1) c.1) in
    pieces_back 32 line w.0.0 (w.0.1 ∷ []) (two_back (words line) w.0 w.1) ∙ ap (λ t. t ++ spaced (w.0.1 ∷ [])) ((bytes_eq-Decides w.0.0 (codes "certificate")).0 c.0)
    ∙ ap (λ t. codes "certificate " ++ t) (append-nil w.0.1 ∙ sym i.0 ∙ decimal_digit 1 (omega arith))

pub unless_back : (f : Option CertificateFault) (read : Read) (c : Certificate) → unless f read ≡ Ok c → (f ≡ None) × (read ≡ Ok c)
unless_back None read c q = (refl, q)
unless_back (Some f) read c q = absurd cc

pub nothing_read : (is_wide joins : Bool) → (is_wide || not joins) ≡ true → IsRead (begun is_wide joins)
nothing_read is_wide joins h = record { draft = record { settled = refl; opened = tt }; fits = refl; may_join = h }

pub narrow : (c : Certificate) → is_any_certificate c ≡ true → c.is_wide ≡ false → is_certificate c ≡ true
narrow c h w = andt (not c.is_wide) (is_any_certificate c) (ap not w) h

text_back : (ls : List (List ℕ)) (c : Certificate) → read_text ls ≡ Ok c → (text_of c ≡ join_with_byte 10 ls) × (is_certificate c ≡ true)
text_back [] c = λ q. absurd cc
text_back (line ∷ others) c =
    cond_both (is_empty others) (Err (BadLine 1)) (unless (head_fault (words line)) (read_lines 2 nothing_yet others)) (λ r. r ≡ Ok c → (text_of c ≡ join_with_byte 10 (line ∷ others)) × (is_certificate c ≡ true))
    (λ e q. absurd cc)
    (λ e q.
    let u = unless_back (head_fault (words line)) (read_lines 2 nothing_yet others) c q in
    let r = read_back 2 nothing_yet others c (nothing_read false false refl) u.1 in
    (ap (λ t. (codes "certificate 1" ++ (10 ∷ [])) ++ t) (sym r.0) ∙ ap (λ t. t ++ (10 ∷ join_with_byte 10 others)) (sym (first_line line u.0)) ∙ sym (joined_more line others e), narrow c r.1 r.2))

pub certificate_back : (text : List ℕ) (c : Certificate) → certificate_of text ≡ Ok c → (text_of c ≡ text) × (is_certificate c ≡ true)
certificate_back text c =
    cond_both (nat_lt certificate_limit (length text)) (Err (BadLine 1)) (read_text (pieces 10 text)) (λ r. r ≡ Ok c → (text_of c ≡ text) × (is_certificate c ≡ true))
    (λ e q. absurd cc)
    (λ e q. let r = text_back (pieces 10 text) c q in (r.0 ∙ join_with_byte-slice_split 10 text, r.1))
