-- Which digits denote bytes: exactly those that come in pairs.
use Rattle.std.proofs.Common.{◌≡◌, ◌⊎◌, List, ℕ, ◌%◌, ◌==◌, ◌&&◌, length, Bool, true, false, Err, None, inl, inr, refl, ap, arith}
use Rattle.std.proofs.lemmas.Bool.Decides.{nat_tests}
use Rattle.std.proofs.lemmas.List.Sums.{AllPass-from_list_all}
use Rattle.std.specs.Result.{result_ok}
use Rattle.std.specs.List.{list_all}
use Rattle.hex.specs.Hex.{decode_of, is_hex_digit}
use Rattle.hex.specs.declared.error.FromHexError.{FromHexError}
use Rattle.hex.specs.declared.error.FromHexError.TheVariants.{OutOfMemory, OddLength, InvalidStringLength, InvalidHexCharacter}
use Rattle.hex.proofs.HexLemmas.{decode_of-digits}
use Rattle.engine_rules.specs.FaultOrigins.{fault_of_hex}
use Rattle.itch_engine.specs.HexInput.{are_pairs, denoted, digits_of}
use Rattle.itch_engine.specs.ReplayEngines.{HasBadDigits, digits_replayer}
use Rattle.engine_rules.specs.Runs.{Fails}
use Rattle.engine_rules.specs.declared.fault.ProgFault.TheVariants.{BadHex}

false_unless : (b : Bool) → (b ≡ true → ⊥) → b ≡ false
false_unless true never = absurd (never refl)
false_unless false never = refl

both_true : (a b : Bool) → (a && b) ≡ true → (a ≡ true) × (b ≡ true)
both_true true b h = (refl, h)
both_true false b h = absurd cc

-- digits that denote no bytes aren't pairs
unpaired : (digits : List ℕ) → result_ok (decode_of digits) ≡ None → are_pairs digits ≡ false
unpaired digits nothing = false_unless (are_pairs digits) (λ pairs.
    let both = both_true (length digits % 2 == 0) (list_all is_hex_digit digits) pairs in
    let even : length digits % 2 ≡ 0 = grind (arith, nat_tests, both.0) in
    let found = decode_of-digits digits even (AllPass-from_list_all is_hex_digit digits both.1) in
    let some = rw found.1 at nothing in
    cc)

-- an error of decoding says that the digits denote nothing
bad : (input : List ℕ) (error : FromHexError) → decode_of (digits_of input) ≡ Err error → HasBadDigits input BadHex
bad input error is =
    let nothing : denoted input ≡ None = ap result_ok is in
    record { is = refl; unpaired = unpaired (digits_of input) nothing; nothing = nothing }

-- what decoding returns for an input is why the engine fails
pub fails_at_digits : (input : List ℕ) (error : FromHexError) → (error ≡ OutOfMemory) ⊎ (decode_of (digits_of input) ≡ Err error) → Fails digits_replayer input (fault_of_hex error)
fails_at_digits input OutOfMemory cause = tt
fails_at_digits input OddLength (inl is) = absurd cc
fails_at_digits input OddLength (inr is) = inl (bad input OddLength is)
fails_at_digits input InvalidStringLength (inl is) = absurd cc
fails_at_digits input InvalidStringLength (inr is) = inl (bad input InvalidStringLength is)
fails_at_digits input (InvalidHexCharacter c index) (inl is) = absurd cc
fails_at_digits input (InvalidHexCharacter c index) (inr is) = inl (bad input (InvalidHexCharacter c index) is)
