use Rattle.two_thread.proofs.crossings.with_one.Goals as goal

pub returns-in_ok-all_orders-clause-inside : goal.returns-in_ok-all_orders-clause-inside
returns-in_ok-all_orders-clause-inside g c = λ a. c.in_ok-all_orders.ensures.inside _ c.requires.first c.requires.second a
