use Rattle.std.proofs.Common.{refl}
use Rattle.matchit.proofs.OnLiterals.{matchit_on_literals}
use Rattle.ee_wire_calls.specs.Routes.{posts, routes}
use Rattle.ee_wire_calls.proofs.routes.add_gets.Goals as goal

pub returns : goal.returns
unfolding matchit_on_literals posts routes
returns c are_posts =
    rw (c.in_ok-insert-4.ensures.1, c.in_ok-insert-3.ensures.1, c.in_ok-insert-2.ensures.1, c.in_ok-insert.ensures.1, are_posts) refl
