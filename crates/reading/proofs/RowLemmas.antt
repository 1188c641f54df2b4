use Rattle.std.proofs.Common.{◌≡◌, ℕ, Bool, true, false, zero, suc, ◌<◌, ◌≤◌, cond, List, [], ◌∷◌, length, Some, None, Ok, Err, Option, ◌==◌, refl, ap, arith}
use Rattle.model.specs.declared.denial.Denial.TheVariants.{Sheet}
use Rattle.reading.specs.declared.row.Row.{Row}
use Rattle.reading.specs.Read.{either, row, fields, kept, meant}
use Rattle.reading.specs.Rows.{rows_within, rows}
use Rattle.reading.proofs.Spelt.{step, fields_shorter}

kept_rest : (o : Option Row) (mid : List ℕ) (r : Row) (cs : List ℕ) → kept o mid ≡ Some (r, cs) → mid ≡ cs
kept_rest None mid r cs e = let z : ⊥ = grind arith in elim z [ ]
kept_rest (Some x) mid r cs e = grind arith

row_shorter : (bs cs : List ℕ) (r : Row) → row bs ≡ Some (r, cs) → length cs < length bs
unfolding row
row_shorter bs cs r e =
    let s = step (fields bs) (λ f. kept (meant f)) r cs e in
    let m = kept_rest (meant s.x) s.mid r cs s.second in
    let l = fields_shorter bs s.mid s.x s.first in
    grind (arith, m, l)

enough_by : (j k : ℕ) (bs : List ℕ) (o : Option (Row × List ℕ)) → row bs ≡ o → ((cs : List ℕ) → length cs < length bs → rows_within j cs ≡ rows_within k cs)
    → either o (Err Sheet ∷ []) (λ r cs. Ok r ∷ rows_within j cs) ≡ either o (Err Sheet ∷ []) (λ r cs. Ok r ∷ rows_within k cs)
enough_by j k bs None p ih = refl
enough_by j k bs (Some (r, cs)) p ih = ap (λ rs. Ok r ∷ rs) (ih cs (row_shorter bs cs r p))

-- the rows do not depend on the limit, where it is at least the length
enough : (j k : ℕ) (bs : List ℕ) → length bs ≤ j → length bs ≤ k → rows_within j bs ≡ rows_within k bs
enough zero zero bs h l = refl
enough zero (suc k) bs h l = grind arith
enough (suc j) zero bs h l = grind arith
enough (suc j) (suc k) bs h l =
    ap (cond (length bs == 0) []) (enough_by j k bs (row bs) refl (λ cs m. enough j k cs (omega (arith, m)) (omega (arith, m))))

pub rows_none : (bs : List ℕ) → length bs ≡ 0 → rows bs ≡ []
unfolding rows
rows_none [] e = refl
rows_none (b ∷ bs) e = let z : ⊥ = omega arith in elim z [ ]

pub rows_wrong : (bs : List ℕ) → 0 < length bs → row bs ≡ None → rows bs ≡ Err Sheet ∷ []
unfolding rows
rows_wrong [] l e = let z : ⊥ = omega arith in elim z [ ]
rows_wrong (b ∷ bs) l e = grind (arith, e)

pub rows_more : (bs cs : List ℕ) (r : Row) → row bs ≡ Some (r, cs) → length cs < length bs → rows bs ≡ Ok r ∷ rows cs
unfolding rows
rows_more [] cs r e l = let z : ⊥ = omega arith in elim z [ ]
rows_more (b ∷ bs) cs r e l =
    let n = enough (length bs) (length cs) cs (omega arith) (omega arith) in
    grind (arith, e, n)

few_by : (k : ℕ) (b : Bool) (o : Option (Row × List ℕ)) → ((cs : List ℕ) → length (rows_within k cs) ≤ k)
    → length (cond b [] (either o (Err Sheet ∷ []) (λ r cs. Ok r ∷ rows_within k cs))) ≤ suc k
few_by k true o ih = omega arith
few_by k false None ih = omega arith
few_by k false (Some (r, cs)) ih = omega (arith, ih cs)

few_within : (k : ℕ) (bs : List ℕ) → length (rows_within k bs) ≤ k
few_within zero bs = omega arith
few_within (suc k) bs = few_by k (length bs == 0) (row bs) (few_within k)

-- no more rows than bytes
pub few_rows : (bs : List ℕ) → length (rows bs) ≤ length bs
unfolding rows
few_rows bs = few_within (length bs) bs
