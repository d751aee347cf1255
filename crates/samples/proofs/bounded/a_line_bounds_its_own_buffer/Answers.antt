use Rattle.samples.proofs.Gathering.{spoils-unsafe, spares-safe}
use Rattle.samples.proofs.bounded.a_line_bounds_its_own_buffer.Goals as goal

pub returns : goal.returns
returns c = record { spoils = spoils-unsafe; spares = spares-safe }
