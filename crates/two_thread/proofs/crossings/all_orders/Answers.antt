use Rattle.two_thread.proofs.crossings.all_orders.Goals as goal

pub returns-clause-inside : goal.returns-clause-inside
returns-clause-inside g c = λ n h k a. c.in_ok-two_orders-3.ensures.inside n (h, k) (c.in_ok-two_orders-2.ensures.inside n (h, k) (c.in_ok-two_orders.ensures.inside n (h, k) a))
