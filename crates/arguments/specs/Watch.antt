-- What a Watch is at first, and after a poll. Assumes nothing.
use Rattle.std.specs.Prelude.{ℕ, None}
use Rattle.answers.specs.declared.Internal.{Internal}
use Rattle.arguments.specs.declared.Watch.{Watch}
use Rattle.arguments.specs.declared.Left.{Left}

-- nothing was forced
abbrev pub new_watch : ℕ → Internal → Watch
new_watch phy internal = record { phy = phy; internal = internal; forced = None; reforced = 0 }

-- the PHY and its strap stay, the rest is what the poll left
abbrev pub stored_in : Watch → Left → Watch
stored_in w left = record { phy = w.phy; internal = w.internal; forced = left.forced; reforced = left.reforced }
