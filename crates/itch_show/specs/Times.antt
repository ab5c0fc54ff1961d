-- Times of day, as users write them. All is of this project.
use Rattle.std.specs.Prelude.{◌≡◌, ◌⊎◌, ◌+◌, ◌-◌, ◌*◌, ◌^◌, ◌<◌, ◌≤◌, ℕ, List, [], ◌∷◌, ◌++◌, length, codes}
use Rattle.itch_text.specs.Values.{NumberText}

-- two digits write a number below another
pub record TwoDigits (digits : List ℕ) (number limit : ℕ) : Type 0 where
  pub long : length digits ≡ 2
  pub writes : NumberText digits number
  pub below : number < limit

-- nothing, or a point and one to nine decimals: this many nanoseconds
abbrev pub Decimals : List ℕ → ℕ → Type 0
Decimals [] nanos = nanos ≡ 0
Decimals (point ∷ digits) nanos =
    (point ∷ [] ≡ codes ".") × (length digits ≤ 9)
    × (number : ℕ) × NumberText digits number × (nanos ≡ number * 10 ^ (9 - length digits))

-- HH:MM:SS, and decimals of a second
pub record ClockText (word : List ℕ) (nanos : ℕ) : Type 0 where
  pub hours : List ℕ
  pub minutes : List ℕ
  pub seconds : List ℕ
  pub rest : List ℕ
  pub hour : ℕ
  pub minute : ℕ
  pub second : ℕ
  pub fraction : ℕ
  pub parts : word ≡ hours ++ codes ":" ++ minutes ++ codes ":" ++ seconds ++ rest
  pub hour_is : TwoDigits hours hour 24
  pub minute_is : TwoDigits minutes minute 60
  pub second_is : TwoDigits seconds second 60
  pub fraction_is : Decimals rest fraction
  pub nanos_is : nanos ≡ ((hour * 60 + minute) * 60 + second) * 10 ^ 9 + fraction

-- nanoseconds since midnight in digits, or a time of the clock
abbrev pub TimeText : List ℕ → ℕ → Type 0
TimeText word nanos = NumberText word nanos ⊎ ClockText word nanos
