-- The routes, and the route that a path takes.
use Rattle.std.specs.Prelude.{ℕ, List, [], codes, Option, Result, Ok, Err, option_map}
use Rattle.matchit.specs.Rows.{RowsOf}
use Rattle.matchit.specs.Seek.{first}
use Rattle.matchit.specs.Order.{placed}
use Rattle.matchit.specs.Route.{Scan, parse_route}
use Rattle.matchit.specs.Router.{RouteOf, route_from}
use Rattle.matchit.specs.declared.error.InsertError.{InsertError}
use Rattle.ee_wire_calls.specs.declared.routes.Route.{Route}
use Rattle.ee_wire_calls.specs.declared.routes.Route.TheVariants.{Post, Get}
use Rattle.ee_wire_calls.specs.declared.routes.Post.TheVariants as post
use Rattle.ee_wire_calls.specs.declared.routes.Get.TheVariants as query

abbrev pub Routes : Type 0
Routes = RowsOf (RouteOf Route)

-- the routes with one more, whose pattern was read
abbrev pub with_read : Result Scan InsertError → Route → Routes → Routes
with_read (Ok s) route rows = placed (s.pattern, route_from s route) rows
with_read (Err e) route rows = rows

abbrev pub with_route : List ℕ → Route → Routes → Routes
with_route text route rows = with_read (parse_route text) route rows

-- the routes of requests
unfoldable pub posts : Routes
posts =
    with_route (codes "/redeem") (Post post.Redeem)
    (with_route (codes "/day/close") (Post post.DayClose)
    (with_route (codes "/day/open") (Post post.DayOpen)
    (with_route (codes "/bonds") (Post post.Bonds)
    (with_route (codes "/rates") (Post post.Rates) []))))

-- the nine routes
unfoldable pub routes : Routes
routes =
    with_route (codes "/value/{denom}/{issued}/{month}") (Get query.Value)
    (with_route (codes "/batch/{day}") (Get query.Batch)
    (with_route (codes "/ticket/{n}") (Get query.Ticket)
    (with_route (codes "/inventory/{customer}/{month}") (Get query.Inventory) posts)))

-- the route that a text takes
abbrev pub route_of : List ℕ → Option Route
route_of path = option_map (λ m. m.value) (first routes path)
