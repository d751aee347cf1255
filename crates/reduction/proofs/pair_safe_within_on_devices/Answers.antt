use Rattle.reduction.proofs.DeviceWithin.{within_on, within_headline_on, within_result_on}
use Rattle.reduction.proofs.pair_safe_within_on_devices.Goals as goal

pub returns : goal.returns
returns c = record { pair_safe = within_on; headline = within_headline_on; result = within_result_on }
