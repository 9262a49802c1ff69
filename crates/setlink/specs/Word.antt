-- The word of Set Link: what its bits select, and the pairs of speed and duplex that a medium takes (manual 7.1, 7.2).
use Rattle.std.specs.Prelude.{ℕ, ◌+◌, Bool, true, false, List, [], ◌∷◌, Result, Ok, Err, eqb}
use Rattle.std.specs.List.{list_any}
use Rattle.prelude.specs.Bits.{bits, is_set}
use Rattle.prelude.specs.Choice.{when◌then◌else◌, ◌and◌}
use Rattle.setlink.specs.declared.Media.{Media}
use Rattle.setlink.specs.declared.Media.TheVariants.{Copper, Fibre}
use Rattle.setlink.specs.declared.Pair.{Pair}
use Rattle.setlink.specs.declared.UnknownMedia.{UnknownMedia}

-- the media by their numbers (manual 7.2)
abbrev pub copper : ℕ
copper = 0

abbrev pub fibre : ℕ
fibre = 1

-- the medium that a number names; another number names none (manual 7.2, 7.3)
unfoldable pub media_of : ℕ → Result Media UnknownMedia
media_of number =
    when eqb number copper then Ok Copper else
    when eqb number fibre then Ok Fibre else
    Err (record {})

-- the bits that select something, by their numbers; no check reads the pause bits (manual 7.1)
abbrev pub auto_negotiation : ℕ
auto_negotiation = 0

abbrev pub speed10 : ℕ
speed10 = 1

abbrev pub speed100 : ℕ
speed100 = 2

abbrev pub speed1000 : ℕ
speed1000 = 3

abbrev pub speed10g : ℕ
speed10g = 4

abbrev pub half_duplex : ℕ
half_duplex = 8

abbrev pub full_duplex : ℕ
full_duplex = 9

-- no speed is selected (manual 7.3)
abbrev pub no_speed : ℕ → Bool
no_speed word = eqb (bits speed10 4 word) 0

-- how many speeds are selected, and how many duplexes (manual 7.3)
abbrev pub speeds : ℕ → ℕ
speeds word = bits speed10 1 word + bits speed100 1 word + bits speed1000 1 word + bits speed10g 1 word

abbrev pub duplexes : ℕ → ℕ
duplexes word = bits half_duplex 1 word + bits full_duplex 1 word

-- the pairs that copper takes, each by its bits, with whether fibre takes it too (manual 7.2)
abbrev pub pairs : List Pair
pairs =
    record { speed = speed10; duplex = half_duplex; fibre = false }
    ∷ record { speed = speed10; duplex = full_duplex; fibre = false }
    ∷ record { speed = speed100; duplex = half_duplex; fibre = false }
    ∷ record { speed = speed100; duplex = full_duplex; fibre = false }
    ∷ record { speed = speed1000; duplex = full_duplex; fibre = true }
    ∷ []

-- whether a medium takes a pair of this table (manual 7.2)
unfoldable pub takes : Media → Pair → Bool
takes Copper pair = true
takes Fibre pair = pair.fibre

-- the medium takes the pair, and the word selects its speed and its duplex (manual 7.2, 7.3)
unfoldable pub fits : Media → ℕ → Pair → Bool
fits media word pair = takes media pair and is_set pair.speed word and is_set pair.duplex word

-- some pair of a list fits (manual 7.3)
unfoldable pub any_fits : Media → ℕ → List Pair → Bool
any_fits media word = list_any (fits media word)
