-- What the code's scenes, charts and sights stand for.
use Rattle.std.specs.Prelude.{map}
use Rattle.certificate_notes.specs.Scenes as scenes
use Rattle.certificate_notes.specs.declared.scenes.Named.{Named}
use Rattle.certificate_notes.specs.declared.scenes.Scene.{Scene}
use Rattle.certificate_notes.specs.Sights as sights
use Rattle.certificate_notes.specs.declared.chart.Chart.{Chart}
use Rattle.certificate_notes.specs.declared.sight.Sight.{Sight}

abbrev pub named : Named → scenes.Named
named n = record { name = n.name.now; slot = n.slot }

abbrev pub scene : Scene → scenes.Scene
scene s = record { number = s.number; is_loop = s.is_loop; here = map named s.here.items; around = s.around.items }

abbrev pub chart : Chart → sights.Chart
chart c = record {
  arguments = map named c.arguments.items;
  buffers = map named c.buffers.items;
  entry = map named c.entry.items;
  names = map named c.names.items;
  scenes = map scene c.scenes.items;
}

abbrev pub sight : Sight → sights.Sight
sight s = record { here = map named s.here.now; before = map named s.before.now; around = s.around.now; has_new = s.has_new; has_second = s.has_second }
