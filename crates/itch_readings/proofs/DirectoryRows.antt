-- A stock's directory row along the messages of a day.
use Rattle.std.proofs.Common.{◌≡◌, ◌≢◌, ◌==◌, ◌+◌, ◌-◌, ◌<◌, ◌≤◌, ◌⊎◌, ℕ, zero, suc, List, [], ◌∷◌, get_or, Option, Some, None, Bool, true, false, cond, refl, sym, ap, ◌∙◌, arith, inl, inr}
use Rattle.std.specs.Prelude.{is_some, option_map}
use Rattle.std.specs.Cmp.{nat_cmp_total}
use Rattle.std.specs.FinMap.{get-empty, get-insert}
use Rattle.std.proofs.lemmas.Bool.{cases_Bool, cases_eq}
use Rattle.std.proofs.lemmas.Bool.Decides.{nat_tests}
use Rattle.std.proofs.lemmas.Grind.{common_steps}
use Rattle.std.proofs.lemmas.Slice.Eq.{bytes_eq-Decides}
use Rattle.itch_layouts.specs.Shapes.{shape_of}
use Rattle.itch_layouts.specs.declared.message.Directory.{Directory as DirectoryRow}
use Rattle.itch_layouts.specs.declared.message.Msg.{Msg}
use Rattle.itch_layouts.specs.declared.message.Msg.TheVariants.{System, Directory, Trading, Regsho, Decline, Breach, Ipo, Execute, ExecutePrice, Cancel}
use Rattle.itch_layouts.specs.declared.shape.Shape.{Shape}
use Rattle.itch_layouts.specs.declared.shape.Shape.TheVariants.{Known, Unknown, BadLength}
use Rattle.itch_table.specs.declared.order.OrderRow.{OrderRow}
use Rattle.itch_table.specs.declared.outcome.Fault.{Fault}
use Rattle.itch_table.specs.declared.outcome.Fault.TheVariants.{LocateTaken, NoDirectory}
use Rattle.itch_table.specs.declared.outcome.Outcome.{Outcome}
use Rattle.itch_table.specs.declared.outcome.Outcome.TheVariants.{Applied}
use Rattle.itch_table.specs.declared.outcome.Part.{Part}
use Rattle.itch_table.specs.declared.outcome.Part.TheVariants.{Locate, Nowhere}
use Rattle.itch_table.specs.declared.status.StockRow.{StockRow}
use Rattle.itch_table.specs.declared.status.Trading.{Trading as TradingState}
use Rattle.itch_table.specs.After.{after, outcome}
use Rattle.itch_table.specs.Parts.{part, part_of_message, part_of_shape}
use Rattle.itch_table.specs.Projection.{is_of_stock, only, payload_at}
use Rattle.itch_table.specs.Table.{checks, effect, first_fault, less_shares, listed, order_row, refuse_unless, result_of, same_stock, set_regsho, set_trading, step, step_message, step_shape, with_directory_row, with_order, with_stock, without_order}
use Rattle.itch_table.specs.World.{World, directory, empty_world, stock_row}
use Rattle.itch_table.proofs.Days.{after-next, after-none, outcome-next}
use Rattle.itch_table.proofs.OneStock.{stock_row-only}
use Rattle.itch_table.proofs.OtherSteps.{others_stay}
use Rattle.itch_table.proofs.StockDays.{only-empty, other_part, own_part}
use Rattle.itch_readings.specs.Naming.{symbol_by, symbol_by_shape}

-- ---- a stock's row, where one is set

set_here : (w : World) (l : ℕ) (row : StockRow) → stock_row (with_stock w l row) l ≡ Some row
set_here w l row = grind (arith, common_steps, nat_tests, get-insert nat_cmp_total w.stocks l row l)

set_elsewhere : (w : World) (l q : ℕ) (row : StockRow) → q ≢ l → stock_row (with_stock w l row) q ≡ stock_row w q
set_elsewhere w l q row apart = grind (arith, common_steps, nat_tests, get-insert nat_cmp_total w.stocks l row q)

-- ---- other messages than directory messages keep all directory rows

abbrev KeepsRows : World → World → Type 0
KeepsRows v w = (l : ℕ) → directory w l ≡ directory v l

less_keeps : (w : World) (l r : ℕ) (row : OrderRow) (shares : ℕ) → KeepsRows w (less_shares w l r row shares)
less_keeps w l r row shares q =
    elim (row.shares == shares) as (λ (b : Bool). directory (less_by b) q ≡ directory w q) [ true ↦ refl | false ↦ refl ]
  where
    less_by : Bool → World
    less_by b = cond b (without_order w l r) (with_order w l r (record row { shares = row.shares - shares }))

-- where a stock's row is set anew with the same directory
same_directory : (w : World) (l : ℕ) (known row : StockRow) → stock_row w l ≡ Some known → row.directory ≡ known.directory → KeepsRows w (with_stock w l row)
same_directory w l known row is same q = elim (cases_eq q l) [
  | inl here ↦
      rw here (ap (option_map (λ (r : StockRow). r.directory)) (set_here w l row) ∙ ap Some same ∙ sym (ap (option_map (λ (r : StockRow). r.directory)) is))
  | inr apart ↦ ap (option_map (λ (r : StockRow). r.directory)) (set_elsewhere w l q row apart)
]

trading_keeps : (o : Option StockRow) (w : World) (l : ℕ) (state : TradingState) → stock_row w l ≡ o → KeepsRows w (set_trading o w l state)
trading_keeps None w l state is q = refl
trading_keeps (Some known) w l state is q = same_directory w l known (record known { trading = Some state }) is refl q

regsho_keeps : (o : Option StockRow) (w : World) (l action : ℕ) → stock_row w l ≡ o → KeepsRows w (set_regsho o w l action)
regsho_keeps None w l action is q = refl
regsho_keeps (Some known) w l action is q = same_directory w l known (record known { regsho = Some action }) is refl q

effect_keeps : (m : Msg) (w : World) → symbol_by_shape (Known m) ≡ None → KeepsRows w (effect m w)
effect_keeps (Directory head m) w none q = let never : ⊥ = cc in absurd never
effect_keeps (Trading head m) w none q = trading_keeps (stock_row w head.locate) w head.locate _ refl q
effect_keeps (Regsho head m) w none q = regsho_keeps (stock_row w head.locate) w head.locate m.action refl q
effect_keeps (Execute head m) w none q = less_keeps w head.locate m.reference (order_row w head.locate m.reference) m.shares q
effect_keeps (ExecutePrice head m) w none q = less_keeps w head.locate m.reference (order_row w head.locate m.reference) m.shares q
effect_keeps (Cancel head m) w none q = less_keeps w head.locate m.reference (order_row w head.locate m.reference) m.shares q
effect_keeps m w none q = refl

result_keeps : (f : Option Fault) (v w : World) → KeepsRows v w → KeepsRows v (result_of f v w).1
result_keeps None v w keeps q = keeps q
result_keeps (Some fault) v w keeps q = refl

pub shape_keeps : (w : World) (s : Shape) → symbol_by_shape s ≡ None → KeepsRows w (step_shape w s).1
shape_keeps w Unknown none q = refl
shape_keeps w BadLength none q = refl
shape_keeps w (Known m) none q = result_keeps (first_fault (checks m w)) w (effect m w) (effect_keeps m w none) q

-- ---- a directory message

row_is : (o : Option StockRow) (m : DirectoryRow) → (with_directory_row o m).directory ≡ m
row_is None m = refl
row_is (Some known) m = refl

abbrev checked : Bool → World → World → Outcome × World
checked b v w = result_of (first_fault (refuse_unless b LocateTaken ∷ [])) v w

passes : (b : Bool) (v w : World) → (checked b v w).0 ≡ Applied → b ≡ true
passes true v w applied = refl
passes false v w applied = let never : ⊥ = cc in absurd never

-- one that is applied sets the stock's row
sets_row : (w : World) (l : ℕ) (m : DirectoryRow) → directory (with_stock w l (with_directory_row (stock_row w l) m)) l ≡ Some m
sets_row w l m =
    ap (option_map (λ (r : StockRow). r.directory)) (set_here w l (with_directory_row (stock_row w l) m)) ∙ ap Some (row_is (stock_row w l) m)

rows_by : (b : Bool) (w : World) (l q : ℕ) (m row : DirectoryRow) → directory (checked b w (with_stock w l (with_directory_row (stock_row w l) m))).1 q ≡ Some row
    → (directory w q ≡ Some row) ⊎ ((m.stock ≡ row.stock) × ((checked b w (with_stock w l (with_directory_row (stock_row w l) m))).0 ≡ Applied))
rows_by false w l q m row is = inl is
rows_by true w l q m row is = elim (cases_eq q l) [
  | inl here ↦
      let found : Some m ≡ Some row = sym (sets_row w l m) ∙ ap (directory (with_stock w l (with_directory_row (stock_row w l) m))) (sym here) ∙ is in
      let same : m ≡ row = cc in
      inr (ap (λ (r : DirectoryRow). r.stock) same, refl)
  | inr apart ↦ inl (sym (ap (option_map (λ (r : StockRow). r.directory)) (set_elsewhere w l q (with_directory_row (stock_row w l) m) apart)) ∙ is)
]

-- a row that a world has after a message was there before, or the message is an applied directory message that gives its
-- symbol
pub row_came : (w : World) (s : Shape) (q : ℕ) (row : DirectoryRow) → directory (step_shape w s).1 q ≡ Some row
    → (directory w q ≡ Some row) ⊎ ((symbol_by_shape s ≡ Some row.stock) × ((step_shape w s).0 ≡ Applied))
row_came w Unknown q row is = inl is
row_came w BadLength q row is = inl is
row_came w (Known (Directory head m)) q row is = elim (rows_by (same_stock m.stock (directory w head.locate)) w head.locate q m row is) [
  | inl before ↦ inl before
  | inr now ↦ inr (ap Some now.0, now.1)
]
row_came w (Known m) q row is = inl (sym (shape_keeps w (Known m) refl q) ∙ is)

-- where the stock has a row, one that is applied gives the row's symbol
same_symbol : (o : Option DirectoryRow) (stock : List ℕ) (row : DirectoryRow) → o ≡ Some row → same_stock stock o ≡ true → row.stock ≡ stock
same_symbol None stock row is same = let never : ⊥ = cc in absurd never
same_symbol (Some known) stock row is same =
    let here : known ≡ row = cc in
    ap (λ (r : DirectoryRow). r.stock) (sym here) ∙ (bytes_eq-Decides known.stock stock).0 same

pub applied_same : (w : World) (s : Shape) (own : List ℕ) (l : ℕ) (row : DirectoryRow) → symbol_by_shape s ≡ Some own → part_of_shape s ≡ Locate l
    → directory w l ≡ Some row → (step_shape w s).0 ≡ Applied → row.stock ≡ own
applied_same w Unknown own l row gives at is applied = let never : ⊥ = cc in absurd never
applied_same w BadLength own l row gives at is applied = let never : ⊥ = cc in absurd never
applied_same w (Known (Directory head m)) own l row gives at is applied =
    let here : head.locate ≡ l = cc in
    let same : m.stock ≡ own = cc in
    same_symbol (directory w head.locate) m.stock row (ap (directory w) here ∙ is) (passes _ w _ applied) ∙ same
applied_same w (Known m) own l row gives at is applied = let never : ⊥ = cc in absurd never

-- where it has none, it is applied
none_differs : (o : Option DirectoryRow) (stock : List ℕ) → o ≡ None → same_stock stock o ≡ true
none_differs None stock is = refl
none_differs (Some row) stock is = let never : ⊥ = cc in absurd never

pub first_applied : (w : World) (s : Shape) (own : List ℕ) (l : ℕ) → symbol_by_shape s ≡ Some own → part_of_shape s ≡ Locate l
    → directory w l ≡ None → (step_shape w s).0 ≡ Applied
first_applied w Unknown own l gives at none = let never : ⊥ = cc in absurd never
first_applied w BadLength own l gives at none = let never : ⊥ = cc in absurd never
first_applied w (Known (Directory head m)) own l gives at none =
    let here : head.locate ≡ l = cc in
    let passed : same_stock m.stock (directory w head.locate) ≡ true = none_differs (directory w head.locate) m.stock (ap (directory w) here ∙ none) in
    ap (λ (b : Bool). (checked b w (with_stock w head.locate (with_directory_row (stock_row w head.locate) m))).0) passed
first_applied w (Known m) own l gives at none = let never : ⊥ = cc in absurd never

-- afterwards the stock has a row in any case, and no other stock's has changed
refused_had : (o : Option DirectoryRow) (stock : List ℕ) → same_stock stock o ≡ false → is_some o ≡ true
refused_had None stock differs = let never : ⊥ = cc in absurd never
refused_had (Some row) stock differs = refl

lists_by : (b : Bool) (w : World) (l : ℕ) (m : DirectoryRow) → same_stock m.stock (directory w l) ≡ b
    → is_some (directory (checked b w (with_stock w l (with_directory_row (stock_row w l) m))).1 l) ≡ true
lists_by true w l m is = ap is_some (sets_row w l m)
lists_by false w l m is = refused_had (directory w l) m.stock is

others_by : (b : Bool) (w : World) (l q : ℕ) (m : DirectoryRow) → q ≢ l
    → directory (checked b w (with_stock w l (with_directory_row (stock_row w l) m))).1 q ≡ directory w q
others_by true w l q m apart = ap (option_map (λ (r : StockRow). r.directory)) (set_elsewhere w l q (with_directory_row (stock_row w l) m) apart)
others_by false w l q m apart = refl

pub then_listed : (w : World) (s : Shape) (own : List ℕ) (l : ℕ) → symbol_by_shape s ≡ Some own → part_of_shape s ≡ Locate l
    → is_some (directory (step_shape w s).1 l) ≡ true
then_listed w Unknown own l gives at = let never : ⊥ = cc in absurd never
then_listed w BadLength own l gives at = let never : ⊥ = cc in absurd never
then_listed w (Known (Directory head m)) own l gives at =
    let here : head.locate ≡ l = cc in
    ap (λ (k : ℕ). is_some (directory (step_shape w (Known (Directory head m))).1 k)) (sym here)
    ∙ lists_by (same_stock m.stock (directory w head.locate)) w head.locate m refl
then_listed w (Known m) own l gives at = let never : ⊥ = cc in absurd never

pub others_listed : (w : World) (s : Shape) (own : List ℕ) (l q : ℕ) → symbol_by_shape s ≡ Some own → part_of_shape s ≡ Locate l → q ≢ l
    → directory (step_shape w s).1 q ≡ directory w q
others_listed w Unknown own l q gives at apart = let never : ⊥ = cc in absurd never
others_listed w BadLength own l q gives at apart = let never : ⊥ = cc in absurd never
others_listed w (Known (Directory head m)) own l q gives at apart =
    let here : head.locate ≡ l = cc in
    others_by (same_stock m.stock (directory w head.locate)) w head.locate q m (λ e. apart (e ∙ here))
others_listed w (Known m) own l q gives at apart = let never : ⊥ = cc in absurd never

-- ---- a stock without a directory row has no rows

abbrev code_in : Part → ℕ
code_in (Locate l) = l
code_in (Nowhere fixed) = 0

refused_by : (o : Option Fault) (rest : List (Option Fault)) (v w : World) → o ≡ Some NoDirectory → (result_of (first_fault (o ∷ rest)) v w).1 ≡ v
refused_by None rest v w is = let never : ⊥ = cc in absurd never
refused_by (Some fault) rest v w is = refl

unlisted_refused : (w : World) (l : ℕ) → directory w l ≡ None → listed w l ≡ Some NoDirectory
unlisted_refused w l none = ap (λ (o : Option DirectoryRow). refuse_unless (is_some o) NoDirectory) none

message_unlisted : (m : Msg) (w : World) (l : ℕ) → part_of_message m ≡ Locate l → symbol_by_shape (Known m) ≡ None → directory w l ≡ None → (step_message w m).1 ≡ w
message_unlisted (System head m) w l at none is = let never : ⊥ = cc in absurd never
message_unlisted (Decline head m) w l at none is = let never : ⊥ = cc in absurd never
message_unlisted (Breach head m) w l at none is = let never : ⊥ = cc in absurd never
message_unlisted (Ipo head m) w l at none is = let never : ⊥ = cc in absurd never
message_unlisted (Directory head m) w l at none is = let never : ⊥ = cc in absurd never
message_unlisted m w l at none is =
    refused_by (listed w (code_in (part_of_message m))) _ w (effect m w) (unlisted_refused w (code_in (part_of_message m)) (ap (λ (p : Part). directory w (code_in p)) at ∙ is))

stays_by : (b : Bool) (w : World) (l : ℕ) (m : DirectoryRow) → directory (checked b w (with_stock w l (with_directory_row (stock_row w l) m))).1 l ≡ None
    → (checked b w (with_stock w l (with_directory_row (stock_row w l) m))).1 ≡ w
stays_by true w l m none = let set = sets_row w l m in let never : ⊥ = cc in absurd never
stays_by false w l m none = refl

-- a stock's message after which it has no directory row changes nothing
still_unlisted : (w : World) (s : Shape) (l : ℕ) → part_of_shape s ≡ Locate l → directory (step_shape w s).1 l ≡ None → (step_shape w s).1 ≡ w
still_unlisted w Unknown l at none = refl
still_unlisted w BadLength l at none = refl
still_unlisted w (Known (Directory head m)) l at none =
    let here : head.locate ≡ l = cc in
    stays_by (same_stock m.stock (directory w head.locate)) w head.locate m (ap (directory (step_shape w (Known (Directory head m))).1) here ∙ none)
still_unlisted w (Known m) l at none = message_unlisted m w l at refl (sym (shape_keeps w (Known m) refl l) ∙ none)

directory-only : (w : World) (l : ℕ) → directory (only l w) l ≡ directory w l
directory-only w l = ap (option_map (λ (r : StockRow). r.directory)) (stock_row-only w l)

-- ---- a day

pub rows_of_unlisted : (day : List (List ℕ)) (l n : ℕ) → directory (after day n) l ≡ None → only l (after day n) ≡ empty_world
rows_of_unlisted day l zero none = ap (only l) (after-none day) ∙ only-empty l
rows_of_unlisted day l (suc n) none =
    let one : n + 1 ≡ suc n = omega arith in
    let w = after day n in
    let payload = get_or day n [] in
    let next : after day (suc n) ≡ (step w payload).1 = ap (after day) (sym one) ∙ after-next day n in
    let then : directory (step w payload).1 l ≡ None = ap (λ (v : World). directory v l) (sym next) ∙ none in
    elim (cases_Bool (is_of_stock l payload)) [
      | inl on ↦
          let same : (step w payload).1 ≡ w = still_unlisted w (shape_of payload) l (own_part l (part payload) on) then in
          ap (only l) (next ∙ same) ∙ rows_of_unlisted day l n (ap (λ (v : World). directory v l) (sym same) ∙ then)
      | inr off ↦
          let same : only l (step w payload).1 ≡ only l w = others_stay w payload l (other_part l (part payload) off) in
          ap (only l) next ∙ same
          ∙ rows_of_unlisted day l n (sym (directory-only w l) ∙ ap (λ (v : World). directory v l) (sym same) ∙ directory-only (step w payload).1 l ∙ then)
    ]

-- a row's symbol was given by an applied directory message
pub record IsGiven (day : List (List ℕ)) (n : ℕ) (symbol : List ℕ) : Type 0 where
  pub message : ℕ
  pub some : 0 < message
  pub within : message ≤ n
  pub gives : symbol_by (payload_at day message) ≡ Some symbol
  pub applied : outcome day message ≡ Applied

pub row_is_given : (day : List (List ℕ)) (l n : ℕ) (row : DirectoryRow) → directory (after day n) l ≡ Some row → IsGiven day n row.stock
row_is_given day l zero row is =
    let nothing : directory (after day 0) l ≡ None =
    ap (λ (v : World). directory v l) (after-none day) ∙ ap (option_map (λ (r : StockRow). r.directory)) (get-empty {X = StockRow} _ l) in
    let never : ⊥ = cc in
    absurd never
row_is_given day l (suc n) row is =
    let one : n + 1 ≡ suc n = omega arith in
    let number : 1 + n ≡ suc n = omega arith in
    let at : suc n - 1 ≡ n = omega arith in
    let w = after day n in
    let payload = get_or day n [] in
    let next : after day (suc n) ≡ (step w payload).1 = ap (after day) (sym one) ∙ after-next day n in
    elim (row_came w (shape_of payload) l row (ap (λ (v : World). directory v l) (sym next) ∙ is)) [
      | inl before ↦
          let given = row_is_given day l n row before in
          record { message = given.message; some = given.some; within = omega (arith, given.within); gives = given.gives; applied = given.applied }
      | inr now ↦ record {
        message = suc n;
        some = omega arith;
        within = omega arith;
        gives = ap (λ (k : ℕ). symbol_by (get_or day k [])) at ∙ now.0;
        applied = ap (outcome day) (sym number) ∙ outcome-next day n ∙ now.1;
      }
    ]
