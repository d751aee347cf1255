-- What the code has of stores of components.
use Rattle.core_code.specs.View.{array, site}
use Rattle.opencl_core.specs.Components as components
use Rattle.opencl_core.specs.declared.components.Changed.{Changed}
use Rattle.opencl_core.specs.declared.components.Changed.TheVariants as changes
use Rattle.opencl_core.specs.declared.components.Spot.{Spot}

abbrev pub changed : Changed → components.Changed
changed (changes.Slots first count) = components.Slots first count
changed (changes.Elements a) = components.Elements (array a)
changed changes.AnyElements = components.AnyElements

abbrev pub spot : Spot → components.Spot
spot s = record { at = site s.at; sign_site = site s.sign_site }
