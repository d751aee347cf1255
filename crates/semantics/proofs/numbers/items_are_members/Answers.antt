use Rattle.semantics.proofs.Groups.{group_size-pos, group-below, place-below, member-of, member-below, group_of-member, place-member}
use Rattle.semantics.proofs.numbers.items_are_members.Goals as goal

pub returns : goal.returns
returns c = record {
  member_of = λ s i h. (group-below s i h, place-below s i (group_size-pos s i h), member-of s i (group_size-pos s i h));
  group_of = λ s g k hg hk. (member-below s g k hg hk, group_of-member s g k hk, place-member s g k hk);
}
