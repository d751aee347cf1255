-- A launch is read of its text.
use Rattle.std.proofs.Common.{◌≡◌, ℕ, ◌+◌, ◌≤◌, false, nat_lt, List, [], ◌∷◌, ◌++◌, length, Ok, refl, ◌∙◌, append_assoc, arith}
use Rattle.std.specs.Prelude.{codes}
use Rattle.std.specs.Fmt.{decimal}
use Rattle.std.proofs.lemmas.Bool.{cond-false}
use Rattle.std.proofs.lemmas.Bool.Decides.{nat_tests}
use Rattle.texts.specs.Surface.{Parameter}
use Rattle.launch_text.specs.LaunchFaults.{cursor}
use Rattle.launch_text.specs.LaunchReading.{TypedLaunch, most_words, words_of, launch_limit, launch_at, launch_of}
use Rattle.launch_text.specs.LaunchText as text
use Rattle.launch_text.specs.Parameters.{IsGiven}
use Rattle.launch_text.proofs.LinesForth.{head_forth, end_text_forth, groups_forth, fill_forth, arguments_forth, buffers_forth}

groups_shape : (x y z others : List ℕ) → (codes "groups " ++ (x ++ (codes " " ++ (y ++ (codes " " ++ (z ++ 10 ∷ [])))))) ++ others ≡ codes "groups " ++ (x ++ (32 ∷ (y ++ (32 ∷ (z ++ (10 ∷ others))))))
groups_shape x y z others = simp append_assoc

lines_forth : (ps : List Parameter) (l : TypedLaunch) → IsGiven ps l → launch_at ps (cursor 1 (text.launch_text ps l)) ≡ Ok l
unfolding launch_at
lines_forth ps l g =
    let last = text.fill_text l.fill in
    let arguments = arguments_forth ps [] ps l.arguments (text.buffers_text ps l.buffers ++ last) 3 g.names g.arguments in
    let few : words_of [] + words_of l.buffers ≤ most_words = omega (arith, g.few) in
    let buffers = buffers_forth ps [] ps l.buffers last arguments.0 g.names g.buffers few in
    let body = text.arguments_text ps l.arguments ++ (text.buffers_text ps l.buffers ++ last) in
    rw (
      head_forth (text.groups_text l ++ body),
      groups_shape (decimal l.groups.x) (decimal l.groups.y) (decimal l.groups.z) body,
      groups_forth l.groups.x l.groups.y l.groups.z body 2 g.count_x g.count_y g.count_z,
      arguments.1,
      buffers.1,
      fill_forth l.fill [] buffers.0 g.fill,
      end_text_forth (buffers.0 + 1),
    ) refl

pub not_above : (a b : ℕ) → b ≤ a → nat_lt a b ≡ false
not_above a b h = grind (arith, nat_tests)

pub launch_forth : (ps : List Parameter) (l : TypedLaunch) → IsGiven ps l → length (text.launch_text ps l) ≤ launch_limit → launch_of ps (text.launch_text ps l) ≡ Ok l
launch_forth ps l g h =
    let short : nat_lt launch_limit (length (text.launch_text ps l)) ≡ false = not_above launch_limit (length (text.launch_text ps l)) h in
    cond-false (nat_lt launch_limit (length (text.launch_text ps l))) _ _ short ∙ lines_forth ps l g
