-- What the tries of a screen show together.
use Rattle.std.specs.Prelude.{◌≡◌, ◌⊎◌, ◌+◌, ◌%◌, ◌<◌, ◌≤◌, ℕ, List}
use Rattle.top_cell.specs.declared.rule.View.{View}
use Rattle.top_cell.specs.Rule.{ShowsOf, number_in, number_of, sight_of, stock_of}

-- the words show the screen's stock, at a number that is no lower than the screen's and becomes it
abbrev pub Stands : View → List ℕ → View → Type 0
Stands before words after =
    ShowsOf (stock_of before) (number_in words) words × (number_of before ≤ number_in words)
    × (number_of after ≡ number_in words)

-- the screen's number stays, and the count, which is the last that it has loaded, is odd, or a try began meanwhile and
-- it is above the one at which that try began
abbrev pub WasBusy : View → ℕ → View → Type 0
WasBusy before count after =
    (number_of after ≡ number_of before) × (count ≡ (sight_of after).last)
    × ((count % 2 ≡ 1)
    ⊎ (((sight_of before).tries < (sight_of after).tries) × ((sight_of after).began < count)))

-- the last count that the screen has loaded is even, and its last try began at it
abbrev pub EndsAtRest : View → Type 0
EndsAtRest after = ((sight_of after).last ≡ (sight_of after).began) × ((sight_of after).last % 2 ≡ 0)

-- neither the last count that the screen has loaded nor the one at which its last try began is lower than before, and
-- it has loaded the count, begun a try and won one as often as before or more often
abbrev pub CountsRise : View → View → Type 0
CountsRise before after =
    ((sight_of before).last ≤ (sight_of after).last) × ((sight_of before).began ≤ (sight_of after).began)
    × ((sight_of before).looks ≤ (sight_of after).looks) × ((sight_of before).tries ≤ (sight_of after).tries)
    × ((sight_of before).wins ≤ (sight_of after).wins)

-- the count was loaded, and a try was won
abbrev pub IsWon : View → View → Type 0
IsWon before after =
    ((sight_of before).looks < (sight_of after).looks) × ((sight_of before).wins < (sight_of after).wins)

-- one try gave these words, by six loads
abbrev pub Got : View → List ℕ → View → Type 0
Got before words after =
    Stands before words after × ((sight_of after).loads ≡ (sight_of before).loads + 6) × EndsAtRest after
    × IsWon before after

-- this many tries were lost: the count was loaded that often or more often, and no try was won
abbrev pub AreLost : View → ℕ → View → Type 0
AreLost before tries after =
    ((sight_of before).looks + tries ≤ (sight_of after).looks)
    × ((sight_of after).wins ≡ (sight_of before).wins)

-- one try was lost, by one to six loads
abbrev pub Lost : View → ℕ → View → Type 0
Lost before count after =
    WasBusy before count after × ((sight_of before).loads < (sight_of after).loads)
    × ((sight_of after).loads ≤ (sight_of before).loads + 6) × AreLost before 1 after

-- one of several tries gave these words, by six loads or more
abbrev pub Won : View → List ℕ → View → Type 0
Won before words after =
    Stands before words after × ((sight_of before).loads + 6 ≤ (sight_of after).loads) × EndsAtRest after
    × IsWon before after

-- some tries were lost, the last of them at this count, by one load or more
abbrev pub Busied : View → ℕ → View → Type 0
Busied before count after = WasBusy before count after × ((sight_of before).loads < (sight_of after).loads)
