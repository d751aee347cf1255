use Rattle.core_code.specs.View.{array, site, term}
use Rattle.path_steps.specs.View.{followed, value}
use Rattle.arrival_claims.specs.View.{placed}
use Rattle.path_walk.proofs.Courses.{store_steps, store_stops}
use Rattle.path_walk.proofs.course.walk_store.Goals as goal

pub returns : goal.returns
unfolding placed
returns g c = store_steps (placed g.D.Domain c.args.placing.now) c.args.statement (array c.args.store.array) (site c.args.store.site) (term c.args.store.index.now) (term c.args.store.value.now) (followed c.args.path.now) (followed c.value_at.new.path) (followed c.value_at-2.new.path) (value c.in_ok-place.place) (value c.in_ok-value.value) c.in_ok-place.ensures c.in_ok-value.ensures (followed c.stored.new.path) c.in_ok-stored.ensures

pub returns-in_err-stored : goal.returns-in_err-stored
unfolding placed
returns-in_err-stored g c = store_stops (placed g.D.Domain c.args.placing.now) c.args.statement (array c.args.store.array) (site c.args.store.site) (term c.args.store.index.now) (term c.args.store.value.now) (followed c.args.path.now) (followed c.value_at.new.path) (followed c.value_at-2.new.path) (value c.in_ok-place.place) (value c.in_ok-value.value) c.in_ok-place.ensures c.in_ok-value.ensures (followed c.stored.new.path) c.in_err-stored.field-0.0 c.from_residual-in_err-stored.result c.from_residual-in_err-stored.ensures c.in_err-stored.ensures
