use Rattle.std.proofs.Common.{map, ap, ◌∙◌}
use Rattle.std.specs.String.{string_bytes}
use Rattle.certificate.specs.View as view
use Rattle.certificate.specs.Certificates.{certificate}
use Rattle.certificate.specs.Tables.{table}
use Rattle.certificate.proofs.NumberedTexts.{written_in_turn}
use Rattle.certificate.proofs.numbered_writer.write_behind.Goals as goal

pub returns : goal.returns
returns c =
    ap (λ v. v.items) c.into_bytes.ensures.value
    ∙ written_in_turn c.args.first.now (table c.in_ok-table.table) (certificate c.args.from.now) (map view.place c.places.result.now) (map view.bound c.bounds.result.now) (map view.entry c.entries.result.now)
    (string_bytes c.in_ok-out.out) (string_bytes c.push_table.new.out) (string_bytes c.push_places.new.out) (string_bytes c.push_bounds.new.out) (string_bytes c.push_entries.new.out) (string_bytes c.push_str.new.self)
    c.in_ok-table.ensures c.places.ensures c.bounds.ensures c.entries.ensures c.in_ok-out.ensures.ok
    c.in_ok-push_table.ensures c.in_ok-push_places.ensures c.in_ok-push_bounds.ensures c.in_ok-push_entries.ensures c.in_ok-push_str.ensures.bytes
