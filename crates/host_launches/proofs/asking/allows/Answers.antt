use Rattle.std.proofs.Common.{◌≡◌, ℕ, List, length, map, rules, refl, ap, sym, ◌∙◌, arith}
use Rattle.std.specs.Prelude.{vec_len}
use Rattle.std.proofs.lemmas.List.{length-map}
use Rattle.std.proofs.lemmas.Slice.Zip.{AllZip-long}
use Rattle.semantics.specs.Launch.{IsArgument}
use Rattle.core_code.specs.View.{kernel}
use Rattle.words.specs.View.{word}
use Rattle.launch.specs.View.{conditions, argument_range, length_sum, launch}
use Rattle.host_launches.specs.Kinds.{all_kinds, value_kinds, buffer_kinds}
use Rattle.host_launches.specs.Numbers.{words_of, lengths_of}
use Rattle.host_launches.specs.Refusing.{Tells}
use Rattle.host_launches.specs.Telling.{all_told}
use Rattle.host_launches.proofs.Numbered.{numbered}
use Rattle.host_launches.proofs.Words.{words_are, lengths_alike}
use Rattle.host_launches.proofs.Meeting.{told, suits, meets_all}
use Rattle.host_launches.proofs.asking.allows.Goals as goal

pub met-requires-clause-arguments : goal.met-requires-clause-arguments
met-requires-clause-arguments c =
    let k = kernel c.args.core.now in
    let ss = c.args.shapes.now in
    let gs = c.args.arguments.now in
    let a = c.in_ok-asked.asked in
    let t = told k ss c.args.range.now gs a.launch.groups c.in_ok-asked.ensures.told in
    let one : length (map argument_range c.args.conditions.now.arguments.items) ≡ length k.arguments = c.requires.arguments in
    let two : length k.arguments ≡ length (all_kinds value_kinds ss) = ap (λ ks. length ks) t.of.arguments in
    let three : length (words_of ss gs) ≡ length (all_kinds value_kinds ss) = AllZip-long IsArgument (all_kinds value_kinds ss) (words_of ss gs) (words_are ss gs t.fit.many) in
    let four : length (map word a.launch.arguments.items) ≡ length (words_of ss gs) = ap (λ ws. length ws) c.in_ok-asked.ensures.numbers.words in
    let all : length c.args.conditions.now.arguments.items ≡ length a.launch.arguments.items =
    sym (length-map c.args.conditions.now.arguments.items argument_range) ∙ one ∙ two ∙ sym three ∙ sym four ∙ length-map a.launch.arguments.items word in
    search (rules, all)

pub met-requires-clause-buffers : goal.met-requires-clause-buffers
met-requires-clause-buffers c =
    let k = kernel c.args.core.now in
    let ss = c.args.shapes.now in
    let gs = c.args.arguments.now in
    let a = c.in_ok-asked.asked in
    let t = told k ss c.args.range.now gs a.launch.groups c.in_ok-asked.ensures.told in
    let one : length (map length_sum c.args.conditions.now.lengths.items) ≡ length k.buffers = c.requires.lengths in
    let two : length k.buffers ≡ length (all_kinds buffer_kinds ss) = ap (λ ks. length ks) t.of.buffers in
    let three : length (all_kinds buffer_kinds ss) ≡ length (lengths_of ss gs) = lengths_alike ss gs t.fit.many in
    let four : length a.lengths.items ≡ length (lengths_of ss gs) = ap (λ ns. length ns) c.in_ok-asked.ensures.numbers.lengths in
    let all : length c.args.conditions.now.lengths.items ≡ length a.lengths.items =
    sym (length-map c.args.conditions.now.lengths.items length_sum) ∙ one ∙ two ∙ three ∙ sym four in
    search (rules, all)

pub returns-clause-suits : goal.returns-clause-suits
returns-clause-suits c = λ ok.
    suits (kernel c.args.core.now) c.args.shapes.now c.args.range.now c.args.arguments.now c.in_ok-asked.asked.launch.groups
    (told (kernel c.args.core.now) c.args.shapes.now c.args.range.now c.args.arguments.now c.in_ok-asked.asked.launch.groups c.in_ok-asked.ensures.told)

pub returns-clause-met : goal.returns-clause-met
returns-clause-met c = λ ok.
    let a = c.in_ok-asked.asked in
    meets_all (kernel c.args.core.now) c.args.shapes.now (conditions c.args.conditions.now) c.args.range.now c.args.arguments.now a.launch.groups (launch a.launch) a.lengths.items
    (told (kernel c.args.core.now) c.args.shapes.now c.args.range.now c.args.arguments.now a.launch.groups c.in_ok-asked.ensures.told)
    refl c.in_ok-asked.ensures.numbers.words c.in_ok-asked.ensures.numbers.lengths (c.met.ensures.met ok)

pub returns-in_err-asked-clause-numbered : goal.returns-in_err-asked-clause-numbered
returns-in_err-asked-clause-numbered c =
    let k = kernel c.args.core.now in
    let t : Tells c.from_residual.result (all_told k c.args.shapes.now c.args.conditions.now c.args.range.now c.args.arguments.now c.args.is_held) = search rules in
    numbered k c.args.shapes.now c.args.conditions.now c.args.range.now c.args.arguments.now c.args.is_held c.from_residual.result t
