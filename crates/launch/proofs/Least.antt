-- The launch at the least values meets its conditions.
use Rattle.std.proofs.Common.{◌≡◌, ℕ, zero, suc, ◌+◌, ◌-◌, ◌≤◌, List, [], ◌∷◌, ◌++◌, length, map, replicate, true, Option, Some, None, refl, ap, sym, ◌∙◌, append_assoc, subst, arith}
use Rattle.std.specs.Prelude.{ℤ, pos, negsuc, ◌+ℤ◌, ◌*ℤ◌, ◌≤ℤ◌, nat_le, IfSome, Vec}
use Rattle.std.specs.declared.alloc.Global.{Global}
use Rattle.std.specs.Option.{option_map}
use Rattle.std.specs.List.{All, AllZip}
use Rattle.std.proofs.lemmas.Bool.{cond_both}
use Rattle.std.proofs.lemmas.Bool.Decides.{nat_tests}
use Rattle.std.proofs.lemmas.List.{length-replicate, length-map}
use Rattle.std.proofs.lemmas.List.Elements.{All-weaker}
use Rattle.std.proofs.lemmas.Int.{ints}
use Rattle.semantics.specs.Word.{Kind, Word as Typed, word as typed, in_kind}
use Rattle.semantics.specs.Launch as launches
use Rattle.semantics.specs.Conditions.{Range, Summand, Constant, Argument, Groups, Product, Factor, ArgumentFactor, GroupsFactor, Requirement, IsIn, IsLongEnough, IsRequired, Meets, factor_value, summand_value, sum_value}
use Rattle.words.specs.View.{kind, word, value_of}
use Rattle.words.specs.declared.word.Word.{Word as Code}
use Rattle.launch.specs.View.{argument_range, count_range, length_sum, requirement, conditions, buffer, launch}
use Rattle.launch.specs.Differences.{above_zero}
use Rattle.launch.specs.Unmet.{unmet_requirements, unmet_contents}
use Rattle.launch.specs.Least.{low, least_with, least_length, brought, word_within, one_filled, in_front, follow, filled, number, met, with_buffers, probed, probe, words, words_seen}
use Rattle.launch.specs.declared.conditions.ArgumentRange.{ArgumentRange}
use Rattle.launch.specs.declared.conditions.CountRange.{CountRange}
use Rattle.launch.specs.declared.conditions.Length.{Length}
use Rattle.launch.specs.declared.conditions.Content.{Content}
use Rattle.launch.specs.declared.conditions.Conditions.{Conditions}
use Rattle.launch.specs.declared.launches.Buffers.{Buffers}
use Rattle.launch.specs.declared.launches.Launch.{Launch}
use Rattle.launch.proofs.Unmet.{requirements-met, contents-met}

pub words-replicate : (n : ℕ) (w : Code) → map word (replicate n w) ≡ replicate n (word w)
words-replicate zero w = refl
words-replicate (suc n) w = ap (λ ws. word w ∷ ws) (words-replicate n w)

-- the buffers that were filled before, and the others
abbrev pub after : List (List Typed) → Option (List (List Typed)) → Option (List (List Typed))
after done None = None
after done (Some others) = Some (done ++ others)

pub after-front : (done : List (List Typed)) (ws : List Typed) (o : Option (List (List Typed))) → after (done ++ ws ∷ []) o ≡ after done (in_front ws o)
after-front done ws None = refl
after-front done ws (Some others) = ap (λ (bs : List (List Typed)). Some bs) (append_assoc done (ws ∷ []) others)

-- what a buffer is filled with
pub record IsFilled (l : launches.Launch) (n : Length) (ws : List Typed) : Type 0 where
  pub value : ℤ
  pub is_in_kind : in_kind (kind n.kind) value ≡ true
  pub are : ws ≡ replicate (least_length l n) (typed (kind n.kind) value)
  pub few : least_length l n ≤ 1048576

le-room : (a b : ℕ) → nat_le a b ≡ true → a ≤ b
le-room a b h = grind (arith, nat_tests)

kind-back : (k : Kind) (n : ℕ) (z : ℤ) (ws : List Typed) → option_map (replicate n) (word_within k z) ≡ Some ws → (in_kind k z ≡ true) × (ws ≡ replicate n (typed k z))
kind-back k n z ws =
    cond_both (in_kind k z) (Some (typed k z)) None (λ o. option_map (replicate n) o ≡ Some ws → (in_kind k z ≡ true) × (ws ≡ replicate n (typed k z)))
    (λ h e. (h, cc)) (λ h e. absurd cc)

one-back : (l : launches.Launch) (xs : List Content) (b room : ℕ) (n : Length) (ws : List Typed) → room ≤ 1048576 → one_filled l xs b room n ≡ Some ws → IsFilled l n ws
one-back l xs b room n ws few =
    let z : ℤ = brought l b xs (pos 0) in
    let k : Kind = kind n.kind in
    cond_both (nat_le (least_length l n) room) (option_map (replicate (least_length l n)) (word_within k z)) None (λ o. o ≡ Some ws → IsFilled l n ws)
    (λ h e. let q = kind-back k (least_length l n) z ws e in
    record { value = z; is_in_kind = q.0; are = q.1; few = omega (arith, few, le-room (least_length l n) room h) })
    (λ h e. absurd cc)

-- the first buffer and the others
record Goes (o : Option (List Typed)) (go : List Typed → Option (List (List Typed))) (bs : List (List Typed)) : Type 0 where
  pub one : List Typed
  pub is_one : o ≡ Some one
  pub others : List (List Typed)
  pub are_others : go one ≡ Some others
  pub all : one ∷ others ≡ bs

front-back : (ws : List Typed) (o : Option (List (List Typed))) (go : List Typed → Option (List (List Typed))) (bs : List (List Typed)) → go ws ≡ o → in_front ws o ≡ Some bs → Goes (Some ws) go bs
front-back ws None go bs g e = absurd cc
front-back ws (Some others) go bs g e = record { one = ws; is_one = refl; others = others; are_others = g; all = cc }

follow-back : (o : Option (List Typed)) (go : List Typed → Option (List (List Typed))) (bs : List (List Typed)) → follow o go ≡ Some bs → Goes o go bs
follow-back None go bs e = absurd cc
follow-back (Some ws) go bs e = front-back ws (go ws) go bs refl e

pub all-filled : (l : launches.Launch) (xs : List Content) (b room : ℕ) (ns : List Length) (bs : List (List Typed)) → room ≤ 1048576 → filled l xs b room ns ≡ Some bs → AllZip (IsFilled l) ns bs
all-filled l xs b room [] bs few e = let q : [] ≡ bs = cc in subst (λ (x : List (List Typed)). AllZip (IsFilled l) [] x) q tt
all-filled l xs b room (n ∷ ns) bs few e =
    let g = follow-back (one_filled l xs b room n) (λ ws. filled l xs (b + 1) (room - length ws) ns) bs e in
    subst (λ (x : List (List Typed)). AllZip (IsFilled l) (n ∷ ns) x) g.all
    (one-back l xs b room n g.one few g.is_one, all-filled l xs (b + 1) (room - length g.one) ns g.others (omega (arith, few)) g.are_others)

-- no sum reads the buffers
factor-same : (c : Conditions) (a b : List (List ℤ)) (x : Factor) → factor_value (least_with c a) x ≡ factor_value (least_with c b) x
factor-same c a b (ArgumentFactor p) = refl
factor-same c a b (GroupsFactor d) = refl

summand-same : (c : Conditions) (a b : List (List ℤ)) (x : Summand) → summand_value (least_with c a) x ≡ summand_value (least_with c b) x
summand-same c a b (Constant n) = refl
summand-same c a b (Argument n p) = refl
summand-same c a b (Groups n d) = refl
summand-same c a b (Product n x y) = (λ i. n *ℤ (factor-same c a b x i *ℤ factor-same c a b y i))

sum-same : (c : Conditions) (a b : List (List ℤ)) (s : List Summand) → sum_value (least_with c a) s ≡ sum_value (least_with c b) s
sum-same c a b [] = refl
sum-same c a b (x ∷ s) = ap (λ z. z +ℤ sum_value (least_with c a) s) (summand-same c a b x) ∙ ap (λ z. summand_value (least_with c b) x +ℤ z) (sum-same c a b s)

enough : (z : ℤ) (n : ℕ) → n ≡ above_zero z → z ≤ℤ pos n
enough (pos m) n h = omega (arith, ints)
enough (negsuc m) n h = omega (arith, ints)

long-enough : (c : Conditions) (bs : List (List ℤ)) (n : Length) (ws : List Typed) → IsFilled (least_with c []) n ws → IsLongEnough (least_with c bs) (length_sum n) (map number ws)
long-enough c bs n ws f =
    let same : length (map number ws) ≡ least_length (least_with c []) n =
    length-map ws number ∙ ap length f.are ∙ length-replicate (least_length (least_with c []) n) (typed (kind n.kind) f.value) in
    rw (sum-same c bs [] (length_sum n)) (enough (sum_value (least_with c []) (length_sum n)) (length (map number ws)) same)

lengths-least : (c : Conditions) (bs : List (List ℤ)) (ns : List Length) (ws : List (List Typed)) → AllZip (IsFilled (least_with c [])) ns ws → AllZip (IsLongEnough (least_with c bs)) (map length_sum ns) (map (map number) ws)
lengths-least c bs [] [] h = tt
lengths-least c bs [] (w ∷ ws) h = absurd h
lengths-least c bs (n ∷ ns) [] h = absurd h
lengths-least c bs (n ∷ ns) (w ∷ ws) h = (long-enough c bs n w h.0, lengths-least c bs ns ws h.1)

arguments-least : (rs : List ArgumentRange) → AllZip (λ (r : Range) (w : Typed). IsIn r w.value) (map argument_range rs) (map word (map low rs))
arguments-least [] = tt
arguments-least (r ∷ rs) = ((omega (arith, ints), r.order), arguments-least rs)

count-least : (r : CountRange) → IsIn (count_range r) (pos r.low)
count-least r = let h = r.order in (omega (arith, ints), omega (arith, ints))

requirements-least : (c : Conditions) (bs : List (List ℤ)) → unmet_requirements (least_with c []) c.requirements.items ≡ None → All (IsRequired (least_with c bs)) (map requirement c.requirements.items)
requirements-least c bs h =
    let weaker = λ (r : Requirement) (k : IsRequired (least_with c []) r). rw (sum-same c [] bs r.right, sum-same c [] bs r.left) at k in
    All-weaker (IsRequired (least_with c [])) (IsRequired (least_with c bs)) weaker (map requirement c.requirements.items) (requirements-met (least_with c []) c.requirements.items h)

least-meets : (c : Conditions) (ws : List (List Typed)) (l : launches.Launch) → unmet_requirements (least_with c []) c.requirements.items ≡ None → filled (least_with c []) c.contents.items 0 1048576 c.lengths.items ≡ Some ws → l ≡ least_with c (map (map number) ws) → unmet_contents l c.contents.items ≡ None → Meets (conditions c) l
least-meets c ws l h f e u =
    let bs : List (List ℤ) = map (map number) ws in
    let kept : unmet_contents (least_with c bs) c.contents.items ≡ None = ap (λ x. unmet_contents x c.contents.items) (sym e) ∙ u in
    subst (λ (x : launches.Launch). Meets (conditions c) x) (sym e) (record {
      groups_x = count-least c.groups.x;
      groups_y = count-least c.groups.y;
      groups_z = count-least c.groups.z;
      arguments = arguments-least c.arguments.items;
      lengths = lengths-least c bs c.lengths.items ws (all-filled (least_with c []) c.contents.items 0 1048576 c.lengths.items ws (omega arith) f);
      requires = requirements-least c bs h;
      contents = contents-met (least_with c bs) c.contents.items kept;
    })

pub met-back : (u : Option ℕ) (l m : launches.Launch) → met u l ≡ Some m → (u ≡ None) × (l ≡ m)
met-back None l m h = (refl, cc)
met-back (Some line) l m h = absurd cc

-- what a least launch is made of
pub record IsProbed (c : Conditions) (l : launches.Launch) : Type 0 where
  pub words : List (List Typed)
  pub are_filled : filled (least_with c []) c.contents.items 0 1048576 c.lengths.items ≡ Some words
  pub required : unmet_requirements (least_with c []) c.requirements.items ≡ None
  pub is_least : l ≡ least_with c (map (map number) words)
  pub held : unmet_contents l c.contents.items ≡ None

probed-back : (c : Conditions) (u : Option ℕ) (b : Option (List (List Typed))) (l : launches.Launch) → unmet_requirements (least_with c []) c.requirements.items ≡ u → filled (least_with c []) c.contents.items 0 1048576 c.lengths.items ≡ b → probed u c b ≡ Some l → IsProbed c l
probed-back c None (Some ws) l p q h =
    let m : launches.Launch = least_with c (map (map number) ws) in
    let k = met-back (unmet_contents m c.contents.items) m l h in
    record { words = ws; are_filled = q; required = p; is_least = sym k.1; held = ap (λ x. unmet_contents x c.contents.items) (sym k.1) ∙ k.0 }
probed-back c None None l p q h = absurd cc
probed-back c (Some n) b l p q h = absurd cc

pub probe-back : (c : Conditions) (l : launches.Launch) → probe c ≡ Some l → IsProbed c l
probe-back c l h = probed-back c (unmet_requirements (least_with c []) c.requirements.items) (filled (least_with c []) c.contents.items 0 1048576 c.lengths.items) l refl refl h

typed-buffer : (ws : List Code) → map value_of ws ≡ map number (map word ws)
typed-buffer [] = refl
typed-buffer (w ∷ ws) = ap (λ zs. value_of w ∷ zs) (typed-buffer ws)

typed-buffers : (bs : List (Vec Code Global)) → map buffer bs ≡ map (map number) (map words bs)
typed-buffers [] = refl
typed-buffers (b ∷ bs) = ap (λ z. z ∷ map buffer bs) (typed-buffer b.items) ∙ ap (λ zs. map number (words b) ∷ zs) (typed-buffers bs)

-- the least launch with buffers of the code
pub launch-made : (c : Conditions) (l m : Launch) (bs : List (Vec Code Global)) → launch l ≡ least_with c [] → launch m ≡ record (launch l) { buffers = map buffer bs } → launch m ≡ least_with c (map (map number) (map words bs))
launch-made c l m bs h k =
    let with_these : launches.Launch → launches.Launch = λ x. record x { buffers = map buffer bs } in
    k ∙ ap with_these h ∙ ap (λ zs. least_with c zs) (typed-buffers bs)

pub probe-made : (c : Conditions) (l : launches.Launch) (ws : List (List Typed)) → l ≡ least_with c [] → unmet_requirements l c.requirements.items ≡ None → Some ws ≡ filled l c.contents.items 0 1048576 c.lengths.items
    → probe c ≡ with_buffers c (Some ws)
probe-made c l ws e h k =
    ap (λ x. probed (unmet_requirements x c.requirements.items) c (filled x c.contents.items 0 1048576 c.lengths.items)) (sym e)
    ∙ ap (λ u. probed u c (filled l c.contents.items 0 1048576 c.lengths.items)) h ∙ ap (λ o. with_buffers c o) (sym k)

pub words-kept : (r : Option Launch) (bs : Buffers) (o : Option (List (List Typed))) → IfSome r (λ l. l.buffers ≡ bs) → o ≡ Some (words_seen bs.words) → IfSome r (λ l. o ≡ Some (words_seen l.buffers.words))
words-kept None bs o h k = tt
words-kept (Some l) bs o h k = k ∙ ap (λ (b : Buffers). Some (words_seen b.words)) (sym h)

pub probe-meets : (c : Conditions) (x : Option Launch) → option_map launch x ≡ probe c → IfSome x (λ l. Meets (conditions c) (launch l))
probe-meets c None h = tt
probe-meets c (Some l) h =
    let p = probe-back c (launch l) (sym h) in
    least-meets c p.words (launch l) p.required p.are_filled p.is_least p.held

pub ruleset least = (probe-meets)

pub ruleset copies = (words-replicate)
