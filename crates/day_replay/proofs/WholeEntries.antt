-- One entry more after whole ones.
use Rattle.std.proofs.Common.{◌≡◌, ℕ, false, List, [], ◌∷◌, ◌++◌, length, refl, sym, ap, subst, ◌∙◌, arith}
use Rattle.std.proofs.lemmas.List.{append_assoc, append-nil, length-append}
use Rattle.std.proofs.lemmas.Grind.{flat_map-append}
use Rattle.std.proofs.lemmas.List.Elements.{All-append, All-cons, All-nil}
use Rattle.std.specs.Int.{w16, to_be_bytes}
use Rattle.std.specs.List.{flat_map, zip}
use Rattle.binaryfile.specs.Entries.{Contents, IsPayload, Splits, entry}
use Rattle.binaryfile.specs.Index.{payloads_of}
use Rattle.binaryfile.proofs.Splitting.{splits_contents}
use Rattle.day_replay.specs.Messages.{AreEntries}

abbrev whole_of : List (List ℕ) → Contents
whole_of payloads = record { payloads = payloads; marked = false; tail = [] }

pub zip-push : (numbers : List ℕ) (payloads : List (List ℕ)) (n : ℕ) (payload : List ℕ) → length numbers ≡ length payloads
    → zip (numbers ++ n ∷ []) (payloads ++ payload ∷ []) ≡ zip numbers payloads ++ (n, payload) ∷ []
zip-push [] [] n payload long = refl
zip-push [] (p ∷ ps) n payload long = absurd (omega (arith, long))
zip-push (m ∷ ms) [] n payload long = absurd (omega (arith, long))
zip-push (m ∷ ms) (p ∷ ps) n payload long = ap (λ (l : List (ℕ × List ℕ)). (m, p) ∷ l) (zip-push ms ps n payload (omega (arith, long)))

abbrev pub longer : List ℕ → List ℕ → List ℕ
longer bytes payload = (bytes ++ to_be_bytes w16 (length payload)) ++ payload

module _ (bytes payload : List ℕ) (payloads : List (List ℕ)) (is : IsPayload payload) (before : Splits bytes (whole_of payloads)) where
  all : longer bytes payload ≡ flat_map entry (payloads ++ payload ∷ []) ++ []
  all =
      append_assoc bytes (to_be_bytes w16 (length payload)) payload
      ∙ ap (λ (front : List ℕ). front ++ entry payload) (before.whole ∙ append-nil (flat_map entry payloads))
      ∙ ap (λ (back : List ℕ). flat_map entry payloads ++ back) (sym (append-nil (entry payload)))
      ∙ sym (flat_map-append entry payloads (payload ∷ []))
      ∙ sym (append-nil (flat_map entry (payloads ++ payload ∷ [])))

  pub splits_more : Splits (longer bytes payload) (whole_of (payloads ++ payload ∷ []))
  splits_more = record {
    whole = all;
    each = All-append IsPayload payloads (payload ∷ []) before.each (All-cons IsPayload payload [] is (All-nil IsPayload));
    partial = λ _. tt;
  }

  pub payloads_more : payloads_of (longer bytes payload) ≡ payloads ++ payload ∷ []
  payloads_more = sym (ap (λ (c : Contents). c.payloads) (splits_contents (longer bytes payload) (whole_of (payloads ++ payload ∷ [])) splits_more))

-- one message more
module _ (numbers bytes payload : List ℕ) (n : ℕ) (is : IsPayload payload) (before : AreEntries numbers bytes) where
  pub entries_more : AreEntries (numbers ++ n ∷ []) (longer bytes payload)
  entries_more =
      let ps = payloads_of bytes in
      let more = payloads_more bytes payload ps is before.whole in
      record {
        whole = subst (λ (all : List (List ℕ)). Splits (longer bytes payload) (whole_of all)) (sym more) (splits_more bytes payload ps is before.whole);
        many = omega (arith, before.many, ap length more, length-append ps (payload ∷ []), length-append numbers (n ∷ []));
      }

  pub view_more : zip (numbers ++ n ∷ []) (payloads_of (longer bytes payload)) ≡ zip numbers (payloads_of bytes) ++ (n, payload) ∷ []
  view_more =
      ap (zip (numbers ++ n ∷ [])) (payloads_more bytes payload (payloads_of bytes) is before.whole)
      ∙ zip-push numbers (payloads_of bytes) n payload before.many
