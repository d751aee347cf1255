-- Items whose forms are read of their numbers.
use Rattle.std.proofs.Common.{◌≡◌, ℕ, ◌+◌, ◌≤◌, true, List, [], ◌∷◌, ◌++◌, length, map, Some, refl, ap, sym, subst, ◌∙◌, arith}
use Rattle.std.specs.Prelude.{nat_le, max, fold}
use Rattle.std.specs.List.{flat_map}
use Rattle.std.proofs.lemmas.Grind.{flat_map-append, fold-append}
use Rattle.std.proofs.lemmas.List.{append-nil, length-map}
use Rattle.linear.specs.Linear.{Form}
use Rattle.certificate_text.specs.Certificate.{Name}
use Rattle.certificate_text.specs.Forms.{number}
use Rattle.certificate_text.specs.Lines.{Item}
use Rattle.certificate_text.specs.Rules.{all, is_form}
use Rattle.certificate_text.specs.Items.{line_forms, put_forms}
use Rattle.certificate_text.specs.FormTables.{FormTable, with_form, form_at}
use Rattle.certificate_text.specs.NumberedText.{forms_in, number_form, number_for, numbered}
use Rattle.certificate_text.specs.NumberedReading.{number_in, allowed_form, form_by, forms_by, filled}
use Rattle.certificate_text.proofs.Cuts.{then_back, cond_back}
use Rattle.certificate_text.proofs.PartsRead.{is_part}
use Rattle.certificate_text.proofs.PartsRead.{andt, same}
use Rattle.certificate_text.proofs.Tables.{le_back, eq_back, denied, is_fresh, fresh_push, all_at, at_place, Grown, grown_back}
use Rattle.certificate_text.proofs.Tables as tables
use Rattle.certificate_text.proofs.FormsPut.{forms_put, put_back, put_good}
use Rattle.certificate_text.proofs.ItemsNumbered.{number_in_back}

-- a table as it is read
pub record IsTable (forms : FormTable) : Type 0 where
  pub good : all is_form forms ≡ true
  pub fresh : is_fresh [] forms ≡ true

-- the forms that one line more uses
pub forms_push : (items : List Item) (i : Item) → forms_in (items ++ i ∷ []) ≡ fold with_form (forms_in items) (line_forms i)
forms_push items i =
    ap (fold with_form []) (flat_map-append line_forms items (i ∷ []) ∙ ap (λ fs. flat_map line_forms items ++ fs) (append-nil (line_forms i))) ∙ fold-append with_form [] (flat_map line_forms items) (line_forms i)

below_seen : (n u m : ℕ) → nat_le n (u + 1) ≡ true → m ≡ u → n ≤ m + 1
below_seen n u m h e = let b = le_back n (u + 1) h in omega (arith, b, e)

-- a form whose number was read: with the table's forms that are used so far in front
record IsOfNumber (forms seen : FormTable) (number : Form Name) (n : ℕ) (f : Form Name) : Type 0 where
  same : number_for forms f ≡ number
  good : is_form f ≡ true
  left : FormTable
  table : forms ≡ with_form seen f ++ left
  used : length (with_form seen f) ≡ n

form_by_back : (forms seen left : FormTable) (u : ℕ) (number : Form Name) (r : ℕ × Form Name) → IsTable forms → forms ≡ seen ++ left → length seen ≡ u → form_by forms u number ≡ Some r → IsOfNumber forms seen number r.0 r.1
form_by_back forms seen left u number r t split l e =
    let n = then_back (number_in number) _ r e in
    let f = then_back (allowed_form forms u n.0) _ r n.2 in
    let c = cond_back (nat_le n.0 (u + 1)) (form_at forms n.0) f.0 f.1 in
    let k = at_place forms n.0 f.0 c.1 in
    let g = grown_back forms seen left f.0 n.0 t.fresh split (below_seen n.0 u (length seen) c.0 l) c.1 in
    let made : IsOfNumber forms seen number (max u n.0) f.0 = record {
      same = ap number_form (tables.number_back forms n.0 f.0 t.fresh c.1) ∙ sym (number_in_back number n.0 n.1);
      good = all_at is_form forms k.0 f.0 t.good k.2;
      left = g.left;
      table = g.table;
      used = g.used ∙ ap (λ m. max m n.0) l;
    } in
    subst (λ (p : ℕ × Form Name). IsOfNumber forms seen number p.0 p.1) (same (max u n.0, f.0) r f.2) made

-- forms whose numbers were read, one after the other
record AreOfNumbers (forms seen : FormTable) (numbers : List (Form Name)) (n : ℕ) (fs : List (Form Name)) : Type 0 where
  same : map (number_for forms) fs ≡ numbers
  good : all is_form fs ≡ true
  left : FormTable
  table : forms ≡ fold with_form seen fs ++ left
  used : length (fold with_form seen fs) ≡ n

forms_by_back : (forms seen left : FormTable) (u : ℕ) (numbers : List (Form Name)) (r : ℕ × List (Form Name)) → IsTable forms → forms ≡ seen ++ left → length seen ≡ u → forms_by forms u numbers ≡ Some r → AreOfNumbers forms seen numbers r.0 r.1
forms_by_back forms seen left u [] r t split l e =
    subst (λ (p : ℕ × List (Form Name)). AreOfNumbers forms seen [] p.0 p.1) (same (u, []) r e) (record { same = refl; good = refl; left = left; table = split; used = l })
forms_by_back forms seen left u (number ∷ numbers) r t split l e =
    let f = then_back (form_by forms u number) _ r e in
    let fs = then_back (forms_by forms f.0.0 numbers) _ r f.2 in
    let x = form_by_back forms seen left u number f.0 t split l f.1 in
    let y = forms_by_back forms (with_form seen f.0.1) x.left f.0.0 numbers fs.0 t x.table x.used fs.1 in
    let made : AreOfNumbers forms seen (number ∷ numbers) fs.0.0 (f.0.1 ∷ fs.0.1) = record {
      same = ap (λ g. g ∷ map (number_for forms) fs.0.1) x.same ∙ ap (λ gs. number ∷ gs) y.same;
      good = andt (is_form f.0.1) (all is_form fs.0.1) x.good y.good;
      left = y.left;
      table = y.table;
      used = y.used;
    } in
    subst (λ (p : ℕ × List (Form Name)). AreOfNumbers forms seen (number ∷ numbers) p.0 p.1) (same (fs.0.0, f.0.1 ∷ fs.0.1) r fs.2) made

-- what an item is that was filled: with its numbers it is what was read
pub record IsFilled (forms seen : FormTable) (raw : Item) (n : ℕ) (i : Item) : Type 0 where
  pub number : numbered forms i ≡ raw
  pub good : is_part i ≡ true
  pub left : FormTable
  pub table : forms ≡ fold with_form seen (line_forms i) ++ left
  pub used : length (fold with_form seen (line_forms i)) ≡ n

pub filled_back : (forms seen left : FormTable) (raw : Item) (u : ℕ) (r : ℕ × Item) → IsTable forms → forms ≡ seen ++ left → length seen ≡ u → is_part raw ≡ true → filled forms u raw ≡ Some r → IsFilled forms seen raw r.0 r.1
filled_back forms seen left raw u r t split l g e =
    let fs = then_back (forms_by forms u (line_forms raw)) _ r e in
    let x = forms_by_back forms seen left u (line_forms raw) fs.0 t split l fs.1 in
    let many : length fs.0.1 ≡ length (line_forms raw) = sym (length-map fs.0.1 (number_for forms)) ∙ ap length x.same in
    let own = forms_put fs.0.1 raw many in
    let i : Item = put_forms fs.0.1 raw in
    let made : IsFilled forms seen raw fs.0.0 i = record {
      number = ap (λ gs. put_forms (map (number_for forms) gs) i) own ∙ ap (λ gs. put_forms gs i) x.same ∙ put_back fs.0.1 raw;
      good = put_good fs.0.1 raw x.good g;
      left = x.left;
      table = x.table ∙ ap (λ gs. fold with_form seen gs ++ x.left) (sym own);
      used = ap (λ gs. length (fold with_form seen gs)) own ∙ x.used;
    } in
    subst (λ (p : ℕ × Item). IsFilled forms seen raw p.0 p.1) (same (fs.0.0, i) r fs.2) made
