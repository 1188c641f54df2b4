-- Runs that ended with their budgets spent, one after the other, are completed steps, as many as all the budgets come to.
use Rattle.std.proofs.Common.{◌≡◌, ℕ, zero, suc, ◌+◌, List, [], ◌∷◌, Ok, Err, sum, refl, ap, subst, subst₂, suc-add, zero-add, arith}
use Rattle.std.proofs.lemmas.List.Sums.{sum_by-cons}
use Rattle.memory.specs.Cells.{Row}
use Rattle.model.specs.declared.steps.Outcome.{Outcome}
use Rattle.model.specs.declared.steps.Outcome.TheVariants.{Next, Called}
use Rattle.model.specs.declared.steps.Ran.{Ran}
use Rattle.model.specs.declared.steps.Turn.{Turn}
use Rattle.model.specs.declared.steps.Turn.TheVariants.{Goes, Calls, Stops}
use Rattle.model.specs.declared.stop.Stop.TheVariants as stop
use Rattle.model.specs.declared.user.Registers.{Registers}
use Rattle.model.specs.declared.user.UserMap.{UserMap}
use Rattle.model.specs.Access.{Done, reading, perform}
use Rattle.model.specs.Step.{instruction}
use Rattle.model.specs.Run.{settle, turned, with_word, executed, advanced, settled, runs}
use Rattle.model.specs.Laws.{StepTo, Completed}
use Rattle.model.specs.Programs.{CutRun}

-- a step that is not completed ends a run by another stop
abbrev Other : Turn → Type 0
Other Goes = Unit {0}
Other (Calls s) = (a : ℕ) → s ≡ stop.Spent a → ⊥
Other (Stops s) = (a : ℕ) → s ≡ stop.Spent a → ⊥

turn_other : (r : Registers) (w : ℕ) (p : Done (Outcome × Registers)) → Other (turned r.pc w (settle r p)).0
turn_other r w (Ok (Next, q), c) = tt
turn_other r w (Ok (Called, q), c) = λ a e. let no : ◌≡◌ {A = ℕ} 0 1 = cc in omega arith
turn_other r w (Err z, c) = λ a e. let no : ◌≡◌ {A = ℕ} 0 1 = cc in omega arith

word_other : (r : Registers) (p : Done ℕ) (k : ℕ → Row → Turn × Registers × Row) → ((w : ℕ) (c : Row) → Other (k w c).0) → Other (with_word r p k).0
word_other r (Ok w, c) k h = h w c
word_other r (Err z, c) k h = λ a e. let no : ◌≡◌ {A = ℕ} 0 1 = cc in omega arith

module _ (m : UserMap) where
  step_other : (r : Registers) (cs : Row) → Other (advanced m r cs).0
  step_other r cs = word_other r (perform m cs (reading r.pc)) (executed m r) (λ w c. turn_other r w (perform m c (instruction m.switches r w)))

  spent_steps : (k n a : ℕ) (r : Registers) (cs : Row) → let x = runs k n m r cs in x.0.stop ≡ stop.Spent a → Completed m k r cs x.1 x.2
  spent_steps zero n a r cs e = (refl, refl)
  spent_steps (suc k) n a r cs e = go (advanced m r cs) refl (step_other r cs) (λ q ds. spent_steps k (n + 1) a q ds) e
    where
      more : Registers → Row → Ran × Registers × Row
      more q ds = runs k (n + 1) m q ds

      go : (d : Turn × Registers × Row) → advanced m r cs ≡ d → Other d.0 →
          ((q : Registers) (ds : Row) → (more q ds).0.stop ≡ stop.Spent a → Completed m k q ds (more q ds).1 (more q ds).2) →
          let x = settled d n more in x.0.stop ≡ stop.Spent a → StepTo m r cs (λ r' cs'. Completed m k r' cs' x.1 x.2)
      go (Goes, q, ds) e h rest s = record { registers = q; cells = ds; goes = e; rest = rest q ds s }
      go (Calls z, q, ds) e h rest s = absurd (h a s)
      go (Stops z, q, ds) e h rest s = absurd (h a s)

  module _ (q : Registers) (ds : Row) where
    chained : (k l : ℕ) (r r' : Registers) (cs cs' : Row) → Completed m k r cs r' cs' → Completed m l r' cs' q ds → Completed m (k + l) r cs q ds
    chained zero l r r' cs cs' c d = rw zero-add (subst₂ (λ (v : Registers) (u : Row). Completed m l v u q ds) c.0 c.1 d)
    chained (suc k) l r r' cs cs' c d =
        let rest = chained k l c.registers r' c.cells cs' c.rest d in
        rw suc-add (record { registers = c.registers; cells = c.cells; goes = c.goes; rest = rest })

    pub cut_steps : (ks : List ℕ) (r : Registers) (cs : Row) → CutRun m ks r cs q ds → Completed m (sum ks) r cs q ds
    cut_steps [] r cs c = c
    cut_steps (k ∷ ks) r cs c =
        let r' = c.registers in
        let cs' = c.cells in
        let x = spent_steps k 0 r'.pc r cs (ap (λ (y : Ran × Registers × Row). y.0.stop) c.spent) in
        let x' = subst (λ (y : Ran × Registers × Row). Completed m k r cs y.1 y.2) c.spent x in
        rw sum_by-cons (chained k (sum ks) r r' cs cs' x' (cut_steps ks r' cs' c.rest))
