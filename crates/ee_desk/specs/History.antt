-- The events that a keeper in memory has gone through.
use Rattle.std.specs.Prelude.{◌≡◌, true, List}
use Rattle.ee_desk_model.specs.Repeats.{Content}
use Rattle.ee_desk_laws.specs.Events.{Event, World, begun, Happens}

-- the events lead from the first content to this one
abbrev pub HasGone : Content → Content → List Event → Type 0
HasGone now start events = ∥ ((w : World) × Happens (begun start) events w × (w.up ≡ true) × (now ≡ w.now)) ∥₁
