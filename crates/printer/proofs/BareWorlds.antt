-- Runs, positions aside: of a kernel without positions each leads to the same world but for positions.
use Rattle.std.proofs.Common.{◌≡◌, ℕ, zero, suc, ℤ, pos, List, [], ◌∷◌, ◌++◌, map, Bool, true, false, cond, nat_eq, nat_lt, ◌&&◌, refl, ap, sym, ◌∙◌, bytes_eq}
use Rattle.std.specs.Prelude.{Option, Some, None}
use Rattle.std.specs.Option.{option_map}
use Rattle.std.proofs.lemmas.List.{map-append}
use Rattle.std.proofs.Math.Path.{fun_ext}
use Rattle.semantics.specs.Word.{word}
use Rattle.semantics.specs.Setup.{Setup, group_of, group_size, group_count, item_count, member}
use Rattle.semantics.specs.Memory.{Memory, put, opening_at, opening_memory}
use Rattle.semantics.specs.Item.{Status, Running, Waiting, Ended, Stopped, Item, trail, opening_item, status_of, enter}
use Rattle.semantics.specs.Ask.{Ask, Loads, Stores, Goes, Waits, Rests, ask}
use Rattle.semantics.specs.Solo.{moved, opening, Access, epoch, touch}
use Rattle.semantics.specs.World.{World, Event, Step, Release, opening_world, put_item, noted, stepped, waits, every, may_go, past, released, guarded, happens, then_run, run}
use Rattle.texts.specs.Bare.{nowhere}
use Rattle.printer.specs.BareCore.{bare_steps}
use Rattle.printer.specs.BareRuns.{bare_entry, bare_status, bare_item, bare_setup}
use Rattle.printer.proofs.BareSteps.{bare_ask, bare-asked, bare-enter, bare-status_of, bare-trail}

abbrev pub bare_access : Access → Access
bare_access a = record a { site = nowhere }

abbrev pub bare_items : (ℕ → Item) → ℕ → Item
bare_items items i = bare_item (items i)

abbrev pub bare_world : World → World
bare_world w = record { memory = w.memory; items = bare_items w.items; history = map bare_access w.history }

-- one item
bare-opening_item : (body : _) (vars : _) → opening_item (bare_steps body) vars ≡ bare_item (opening_item body vars)
bare-opening_item body vars =
    let e = bare-enter body [] in
    ap (λ l. record { left = l; variables = vars; answers = []; local_epoch = 0; global_epoch = 0; steps = 0; status = status_of l }) e
    ∙ ap (λ st. record { left = map bare_entry (enter body []); variables = vars; answers = []; local_epoch = 0; global_epoch = 0; steps = 0; status = st }) (bare-status_of (enter body []))

pub bare-opening : (s : Setup) (i : ℕ) → opening (bare_setup s) i ≡ bare_item (opening s i)
unfolding opening
bare-opening s i = bare-opening_item s.kernel.body (s.launch.arguments ++ map (λ k. word k _) s.kernel.variables)

pub bare-moved : (it : Item) (a : Ask) (z : ℤ) → moved (bare_item it) (bare_ask a) z ≡ bare_item (moved it a z)
bare-moved it (Loads at kind site) z = refl
bare-moved it (Stores at site value next) z = refl
bare-moved it (Goes next) z = refl
bare-moved it (Waits next) z = refl
bare-moved it Rests z = refl

pub bare-past : (s : Setup) (i : ℕ) (it : Item) → past (bare_setup s) i (bare_item it) ≡ bare_item (past s i it)
bare-past s i it = ap (λ a. moved (bare_item it) a (pos 0)) (bare-asked s i it) ∙ bare-moved it (ask s i it) (pos 0)

bare-epoch : (it : Item) (owner : ℕ) → epoch (bare_item it) owner ≡ epoch it owner
bare-epoch it zero = refl
bare-epoch it (suc g) = refl

bare-touch : (i : ℕ) (it : Item) (a : Ask) → touch i (bare_item it) (bare_ask a) ≡ option_map bare_access (touch i it a)
bare-touch i it (Loads at kind site) = ap (λ e. Some (record { item = i; at = at; is_store = false; epoch = e; site = nowhere })) (bare-epoch it at.owner)
bare-touch i it (Stores at site value next) = ap (λ e. Some (record { item = i; at = at; is_store = true; epoch = e; site = nowhere })) (bare-epoch it at.owner)
bare-touch i it (Goes next) = refl
bare-touch i it (Waits next) = refl
bare-touch i it Rests = refl

-- worlds
bare-put : (i : ℕ) (m n : Item) (items : ℕ → Item) → n ≡ bare_item m → put_item i n (bare_items items) ≡ bare_items (put_item i m items)
unfolding put_item
bare-put i m n items e = ap (λ x. put_item i x (bare_items items)) e ∙ fun_ext (λ j. by (nat_eq j i) j)
  where
    by : (b : Bool) (j : ℕ) → cond b (bare_item m) (bare_item (items j)) ≡ bare_item (cond b m (items j))
    by true j = refl
    by false j = refl

bare-noted : (o p : Option Access) (history : List Access) → p ≡ option_map bare_access o → noted p (map bare_access history) ≡ map bare_access (noted o history)
bare-noted None p history e = ap (λ x. noted x (map bare_access history)) e
bare-noted (Some a) p history e = ap (λ x. noted x (map bare_access history)) e ∙ sym (map-append bare_access history (a ∷ []))

abbrev world_of : Memory → (ℕ → Item) → List Access → World
world_of m items history = record { memory = m; items = items; history = history }

both : (m : Memory) (a b : ℕ → Item) (h k : List Access) → a ≡ b → h ≡ k → Some (world_of m a h) ≡ Some (world_of m b k)
both m a b h k e f = ap (λ x. Some (world_of m x h)) e ∙ ap (λ x. Some (world_of m b x)) f

bare-stepped : (w : World) (i : ℕ) (a : Ask) → stepped (bare_world w) i (bare_ask a) ≡ option_map bare_world (stepped w i a)
bare-stepped w i (Loads at kind site) =
    both w.memory _ _ _ _ (bare-put i _ _ w.items (bare-moved (w.items i) (Loads at kind site) (w.memory at))) (bare-noted (touch i (w.items i) (Loads at kind site)) _ w.history (bare-touch i (w.items i) (Loads at kind site)))
bare-stepped w i (Stores at site value next) =
    both (put at value w.memory) _ _ _ _ (bare-put i next (bare_item next) w.items refl) (bare-noted (touch i (w.items i) (Stores at site value next)) _ w.history (bare-touch i (w.items i) (Stores at site value next)))
bare-stepped w i (Goes next) = both w.memory _ _ _ _ (bare-put i next (bare_item next) w.items refl) refl
bare-stepped w i (Waits next) = refl
bare-stepped w i Rests = refl

bare-waits : (st : Status) → waits (bare_status st) ≡ waits st
bare-waits Running = refl
bare-waits Waiting = refl
bare-waits Ended = refl
bare-waits (Stopped f site) = refl

pub every-same : (n : ℕ) (p q : ℕ → Bool) → ((k : ℕ) → p k ≡ q k) → every n p ≡ every n q
every-same zero p q h = refl
every-same (suc n) p q h = ap (λ b. b && every n p) (h n) ∙ ap (λ b. q n && b) (every-same n p q h)

pub bare-may : (s : Setup) (items : ℕ → Item) (g : ℕ) → may_go (bare_setup s) (bare_items items) g ≡ may_go s items g
unfolding may_go group_size
bare-may s items g = every-same (group_size s) _ _ (λ k.
    let a = items (member s g k) in
    let b = items (member s g 0) in
    ap (λ t. t && bytes_eq (trail (map bare_entry a.left)) (trail (map bare_entry b.left))) (bare-waits a.status)
    ∙ ap (λ ns. waits a.status && bytes_eq ns (trail (map bare_entry b.left))) (bare-trail a.left)
    ∙ ap (λ ns. waits a.status && bytes_eq (trail a.left) ns) (bare-trail b.left))

bare-released : (s : Setup) (g : ℕ) (w : World) → released (bare_setup s) g (bare_world w) ≡ bare_world (released s g w)
unfolding released group_size
bare-released s g w = ap (λ items. record { memory = w.memory; items = items; history = map bare_access w.history }) (fun_ext (λ i. by (nat_eq (group_of s i) g) i))
  where
    by : (b : Bool) (i : ℕ) → cond b (past (bare_setup s) i (bare_item (w.items i))) (bare_item (w.items i)) ≡ bare_item (cond b (past s i (w.items i)) (w.items i))
    by true i = bare-past s i (w.items i)
    by false i = refl

bare-guarded : (b : Bool) (o p : Option World) → p ≡ option_map bare_world o → guarded b p ≡ option_map bare_world (guarded b o)
bare-guarded true o p e = e
bare-guarded false o p e = refl

pub bare-happens : (s : Setup) (w : World) (e : Event) → happens (bare_setup s) (bare_world w) e ≡ option_map bare_world (happens s w e)
unfolding happens group_size group_count
bare-happens s w (Step i) =
    bare-guarded (nat_lt i (item_count s)) _ _ (ap (stepped (bare_world w) i) (bare-asked s i (w.items i)) ∙ bare-stepped w i (ask s i (w.items i)))
bare-happens s w (Release g) =
    ap (λ b. guarded (nat_lt g (group_count s) && b) (Some (released (bare_setup s) g (bare_world w)))) (bare-may s w.items g)
    ∙ bare-guarded (nat_lt g (group_count s) && may_go s w.items g) _ _ (ap Some (bare-released s g w))

bare-run-then : (s : Setup) (es : List Event) (o p : Option World) → p ≡ option_map bare_world o → ((w : World) → run (bare_setup s) es (bare_world w) ≡ option_map bare_world (run s es w)) → then_run p (run (bare_setup s) es) ≡ option_map bare_world (then_run o (run s es))
bare-run-then s es None p e h = ap (λ x. then_run x (run (bare_setup s) es)) e
bare-run-then s es (Some w) p e h = ap (λ x. then_run x (run (bare_setup s) es)) e ∙ h w

pub bare-run : (s : Setup) (es : List Event) (w : World) → run (bare_setup s) es (bare_world w) ≡ option_map bare_world (run s es w)
bare-run s [] w = refl
bare-run s (e ∷ es) w = bare-run-then s es (happens s w e) _ (bare-happens s w e) (λ v. bare-run s es v)

-- the launch's memory and world
bare-opening_at : (s : Setup) (owner a k : ℕ) → opening_at (bare_setup s) owner a k ≡ opening_at s owner a k
bare-opening_at s zero a k = refl
bare-opening_at s (suc g) a k = refl

pub bare-memory : (s : Setup) → opening_memory (bare_setup s) ≡ opening_memory s
bare-memory s = fun_ext (λ c. bare-opening_at s c.owner c.array c.index)

pub bare-openings : (s : Setup) → opening (bare_setup s) ≡ bare_items (opening s)
bare-openings s = fun_ext (λ i. bare-opening s i)

pub bare-opening_world : (s : Setup) → opening_world (bare_setup s) ≡ bare_world (opening_world s)
unfolding opening_world
bare-opening_world s = ap (λ m. record { memory = m; items = opening (bare_setup s); history = [] }) (bare-memory s) ∙ ap (λ items. record { memory = opening_memory s; items = items; history = [] }) (bare-openings s)
