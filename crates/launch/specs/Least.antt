-- The launch at the least counts, arguments and lengths, each buffer filled with the number nearest to 0 that its lines let it hold.
use Rattle.std.specs.Prelude.{ℕ, ◌+◌, ◌-◌, ℤ, pos, List, [], ◌∷◌, length, map, replicate, nat_le, nat_eq, Bool, cond, Option, Some, None}
use Rattle.std.specs.Prelude.{Vec}
use Rattle.std.specs.Option.{option_map}
use Rattle.std.specs.declared.alloc.Global.{Global}
use Rattle.semantics.specs.Word.{Kind, Word as Typed, word as typed, in_kind}
use Rattle.semantics.specs.Launch as launches
use Rattle.semantics.specs.Conditions.{sum_value}
use Rattle.words.specs.View.{kind, word}
use Rattle.words.specs.declared.word.Word.{Word}
use Rattle.launch.specs.View.{length_sum, sum}
use Rattle.launch.specs.Differences.{above_zero}
use Rattle.launch.specs.Unmet.{may_hold, unmet_requirements, unmet_contents}
use Rattle.launch.specs.declared.conditions.ArgumentRange.{ArgumentRange}
use Rattle.launch.specs.declared.conditions.Length.{Length}
use Rattle.launch.specs.declared.conditions.Content.{Content}
use Rattle.launch.specs.declared.conditions.Conditions.{Conditions}

abbrev pub low : ArgumentRange → Word
low r = r.low

-- with these buffers; no sum reads them
abbrev pub least_with : Conditions → List (List ℤ) → launches.Launch
least_with c buffers = record {
  groups = record { x = c.groups.x.low; y = c.groups.y.low; z = c.groups.z.low };
  arguments = map word (map low c.arguments.items);
  buffers = buffers;
  fill = 0;
  machine = launches.silent;
}

-- the larger of 0 and each length's sum
abbrev pub least_length : launches.Launch → Length → ℕ
least_length l n = above_zero (sum_value l (length_sum n))

-- a number, or the sum where the line does not let its buffer hold that number
abbrev pub nearest : (is_upper : Bool) → (sum z : ℤ) → ℤ
nearest is_upper sum z = cond (may_hold is_upper sum z) z sum

-- lines of other buffers do not matter
abbrev pub next : launches.Launch → (buffer : ℕ) → Content → ℤ → ℤ
next l b x z = cond (nat_eq x.buffer b) (nearest x.is_upper (sum_value l (sum x.sum)) z) z

-- the nearest one that each line of a buffer lets it hold, in the order of the lines
abbrev pub brought : launches.Launch → (buffer : ℕ) → List Content → ℤ → ℤ
brought l b [] z = z
brought l b (x ∷ xs) z = brought l b xs (next l b x z)

-- a number of a kind
abbrev pub word_within : Kind → ℤ → Option Typed
word_within k z = cond (in_kind k z) (Some (typed k z)) None

-- as many words as the buffer has at least, where there is room for them
abbrev pub filled_with : (room words : ℕ) → Option Typed → Option (List Typed)
filled_with room n w = cond (nat_le n room) (option_map (replicate n) w) None

abbrev pub one_filled : launches.Launch → List Content → (buffer room : ℕ) → Length → Option (List Typed)
one_filled l xs b room n = filled_with room (least_length l n) (word_within (kind n.kind) (brought l b xs (pos 0)))

abbrev pub in_front : List Typed → Option (List (List Typed)) → Option (List (List Typed))
in_front ws None = None
in_front ws (Some others) = Some (ws ∷ others)

abbrev pub follow : Option (List Typed) → (List Typed → Option (List (List Typed))) → Option (List (List Typed))
follow None go = None
follow (Some ws) go = in_front ws (go ws)

-- the buffers, in order
abbrev pub filled : launches.Launch → List Content → (buffer room : ℕ) → List Length → Option (List (List Typed))
filled l xs b room [] = Some []
filled l xs b room (n ∷ ns) = follow (one_filled l xs b room n) (λ ws. filled l xs (b + 1) (room - length ws) ns)

abbrev pub number : Typed → ℤ
number w = w.value

-- where nothing is unmet
abbrev pub met : Option ℕ → launches.Launch → Option launches.Launch
met None l = Some l
met (Some line) l = None

abbrev pub with_buffers : Conditions → Option (List (List Typed)) → Option launches.Launch
with_buffers c None = None
with_buffers c (Some ws) = let l = least_with c (map (map number) ws) in met (unmet_contents l c.contents.items) l

-- nothing where a requirement is not met there, where the lengths together pass 1,048,576, or where no number of its kind is one that all
-- lines of a buffer let it hold
abbrev pub probed : Option ℕ → Conditions → Option (List (List Typed)) → Option launches.Launch
probed None c buffers = with_buffers c buffers
probed (Some line) c buffers = None

abbrev pub probe : Conditions → Option launches.Launch
probe c =
    probed (unmet_requirements (least_with c []) c.requirements.items) c (filled (least_with c []) c.contents.items 0 1048576 c.lengths.items)

-- the words of the code, with kinds
abbrev pub words : Vec Word Global → List Typed
words b = map word b.items

abbrev pub words_seen : Vec (Vec Word Global) Global → List (List Typed)
words_seen bs = map words bs.items
