-- Where two machines differ.
use Rattle.std.proofs.Common.{not, ◌≡◌, ℕ, ◌+◌, ◌-◌, ◌*◌, ◌/◌, ◌%◌, ◌<◌, ◌≤◌, Bool, true, false, eqb, eq-eqb, ltb, ◌⊎◌, List, length, get_or, Ok, Err, Result, Some, None, Option, sym, refl, ap, ◌∙◌, subst, ap₂, subst₂, inl, inr, arith, ltb-false, ltb-true}
use Rattle.std.specs.Result.{result_eq}
use Rattle.memory.specs.contracts.fault.MemoryFaultPartialEq
use Rattle.memory.specs.declared.fault.MemoryFault.{MemoryFault}
use Rattle.memory.specs.declared.fault.MemoryFault.TheVariants.{Range, Spoiled}
use Rattle.memory.specs.Cells.{Row}
use Rattle.model.specs.declared.user.User.{User}
use Rattle.model.specs.declared.user.Who.{Who}
use Rattle.model.specs.Machine.{State}
use Rattle.machine.specs.declared.compare.Difference.{Difference}
use Rattle.machine.specs.declared.compare.Difference.TheVariants.{Registers, Map, Kind, LatestStop, Cell}
use Rattle.model.proofs.Rows.{same_reading}
use Rattle.machine.specs.Compare.{AlikeAt, FirstApart, address_in, CellsApart, Compared, Among, NoneIfAlike}

address_at : (bs : List ℕ) (i k : ℕ) → k < 1024 → address_in bs (i * 1024 + k) ≡ get_or bs i 0 * 1024 + k
address_at bs i k h =
    let q : (i * 1024 + k) / 1024 ≡ i = omega arith in
    let m : (i * 1024 + k) % 1024 ≡ k = omega arith in
    ap₂ (λ (x y : ℕ). get_or bs x 0 * 1024 + y) q m

-- the test of two answers finds an answer equal to itself
answer_itself : (x : Result ℕ MemoryFault) → result_eq eqb (MemoryFaultPartialEq.TheImpl.ghosts).eq x x ≡ true
answer_itself (Ok w) = eq-eqb w w refl
answer_itself (Err Range) = refl
answer_itself (Err Spoiled) = refl

pub answers_apart : (x y : Result ℕ MemoryFault) {r : Bool} → r ≡ not (result_eq eqb (MemoryFaultPartialEq.TheImpl.ghosts).eq x y) → r ≡ true → x ≡ y → ⊥
answers_apart x y test t e =
    let same = subst (λ (z : Result ℕ MemoryFault). result_eq eqb (MemoryFaultPartialEq.TheImpl.ghosts).eq x z ≡ true) e (answer_itself x) in
    cc (test, t, same)

split_at : (j n : ℕ) → (j < n) ⊎ (n ≤ j)
split_at j n = go (ltb j n) refl
  where
    go : (b : Bool) → ltb j n ≡ b → (j < n) ⊎ (n ≤ j)
    go true e = inl (ltb-true j n e)
    go false e = inr (ltb-false j n e)

-- a difference in the i-th block b is one in all of them
pub found_in : (bs : List ℕ) (i b : ℕ) (c d c' d' : Row) (a : ℕ) → i < length bs → b ≡ get_or bs i 0 → c' ≡ c → d' ≡ d →
    ((j : ℕ) → j < i * 1024 → AlikeAt c d (address_in bs j)) →
    FirstApart (λ k. b * 1024 + k) 1024 c' d' (Some a) → CellsApart bs c d (Some a)
found_in bs i b c d c' d' a h eb ec ed before f' =
    let P : ℕ → Row → Row → Type 0 = λ z x y. FirstApart (λ k. z * 1024 + k) 1024 x y (Some a) in
    let f : P (get_or bs i 0) c d = subst (λ (z : ℕ). P z c d) eb (subst₂ (P b) ec ed f') in
    (i * 1024 + f.0, omega (arith, h, f.1), f.2 ∙ sym (address_at bs i f.0 f.1), λ j m. go j f.0 m f.1 f.3 (split_at j (i * 1024)), f.4)
  where
    go : (j k : ℕ) → j < i * 1024 + k → k < 1024 → ((n : ℕ) → n < k → AlikeAt c d (get_or bs i 0 * 1024 + n)) → (j < i * 1024) ⊎ (i * 1024 ≤ j) → AlikeAt c d (address_in bs j)
    go j k m l same (inl x) = before j x
    go j k m l same (inr x) =
        let n : j ≡ i * 1024 + (j - i * 1024) = omega arith in
        let p : address_in bs j ≡ get_or bs i 0 * 1024 + (j - i * 1024) = ap (address_in bs) n ∙ address_at bs i (j - i * 1024) (omega arith) in
        subst (λ (x : ℕ). AlikeAt c d x) (sym p) (same (j - i * 1024) (omega arith))

-- ---- nothing differs where the machines are alike
in_mine : (bs : List ℕ) (mine : ℕ → Bool) (n k : ℕ) → Among bs mine → k < length bs * 1024 → n ≡ address_in bs k → mine (n / 1024) ≡ true
in_mine bs mine n k among l e =
    let i : k / 1024 < length bs = omega (arith, l) in
    let b : n / 1024 ≡ get_or bs (k / 1024) 0 = omega (arith, e) in
    ap mine b ∙ among (k / 1024) i

pub none_if_alike : (r : Option Difference) (who : Who) (bs : List ℕ) (s t : State) → Compared r who bs s t → NoneIfAlike r who bs s t
none_if_alike None who bs s t h mine among al = refl
none_if_alike (Some Registers) who bs s t h mine among al = absurd (h (ap (λ (u : User). u.registers) al.user))
none_if_alike (Some Map) who bs s t h mine among al = absurd (h.1 (ap (λ (u : User). u.map) al.user))
none_if_alike (Some Kind) who bs s t h mine among al = absurd (h.2 (ap (λ (u : User). u.kind) al.user))
none_if_alike (Some LatestStop) who bs s t h mine among al = absurd (h.3 (ap (λ (u : User). u.latest) al.user))
none_if_alike (Some (Cell n)) who bs s t h mine among al =
    let f = h.1 in
    absurd (f.4 (same_reading n (in_mine bs mine n f.0 among f.1 f.2) al.memory))
