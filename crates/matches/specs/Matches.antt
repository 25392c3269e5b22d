-- An answer of the pairs of a frame, read as what they come to.
use Rattle.std.specs.Prelude.{true, false, Option, None, Some}
use Rattle.partners.specs.declared.Truths.{Truths}
use Rattle.partners.specs.Partners as partners
use Rattle.matches.specs.declared.Booked.{Booked}

-- none where the table that came, t, stays, and no pair is a switch
abbrev pub pairs_booked : Truths → Option Booked → partners.Booked
pairs_booked t None = record { full = true; truths = t; switched = partners.none }
pairs_booked t (Some b) = record { full = false; truths = b.truths; switched = b.switched }
