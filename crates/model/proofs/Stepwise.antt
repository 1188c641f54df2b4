-- A run is completed steps, one after the other, and then its stop.
use Rattle.std.proofs.Common.{◌≡◌, ℕ, zero, suc, ◌+◌, ◌<◌, Ok, Err, refl, ap, ◌∙◌, arith}
use Rattle.memory.specs.Cells.{Row}
use Rattle.model.specs.declared.steps.Outcome.{Outcome}
use Rattle.model.specs.declared.steps.Outcome.TheVariants.{Next, Called}
use Rattle.model.specs.declared.steps.Ran.{Ran}
use Rattle.model.specs.declared.steps.Turn.{Turn}
use Rattle.model.specs.declared.steps.Turn.TheVariants.{Goes, Calls, Stops}
use Rattle.model.specs.declared.stop.Stop.TheVariants as stop
use Rattle.model.specs.declared.user.Kind.{Kind}
use Rattle.model.specs.declared.user.Kind.TheVariants.{Held, Ready}
use Rattle.model.specs.declared.user.Registers.{Registers}
use Rattle.model.specs.declared.user.User.{User}
use Rattle.model.specs.declared.user.UserMap.{UserMap}
use Rattle.model.specs.declared.user.Who.{Who}
use Rattle.model.specs.declared.user.Who.TheVariants.{A, B}
use Rattle.model.specs.Access.{Done, perform, reading}
use Rattle.model.specs.Step.{instruction}
use Rattle.model.specs.Run.{settle, turned, with_word, executed, advanced, settled, runs}
use Rattle.model.specs.Machine.{Call, State, run_by, call}
use Rattle.model.specs.Laws.{Completed, RunLaw, spent, called, stopped, RanBy, Stepwise}

-- ---- a step that is not completed leaves the registers
abbrev Kept : Registers → Turn × Registers × Row → Type 0
Kept r (Goes, q, cs) = Unit {0}
Kept r (Calls s, q, cs) = Unit {0}
Kept r (Stops s, q, cs) = q ≡ r

turn_kept : (r : Registers) (w : ℕ) (p : Done (Outcome × Registers)) → Kept r (turned r.pc w (settle r p))
turn_kept r w (Ok (Next, q), c) = tt
turn_kept r w (Ok (Called, q), c) = tt
turn_kept r w (Err e, c) = refl

word_kept : (r : Registers) (p : Done ℕ) (k : ℕ → Row → Turn × Registers × Row) → ((w : ℕ) (c : Row) → Kept r (k w c)) → Kept r (with_word r p k)
word_kept r (Ok w, c) k h = h w c
word_kept r (Err e, c) k h = refl

advanced_kept : (m : UserMap) (r : Registers) (cs : Row) → Kept r (advanced m r cs)
advanced_kept m r cs = word_kept r (perform m cs (reading r.pc)) (executed m r) (λ w c. turn_kept r w (perform m c (instruction m.switches r w)))

-- ---- by induction on the budget, j steps being made before
data Ends (m : UserMap) (n j : ℕ) (r : Registers) (cs : Row) (x : Ran × Registers × Row) : Type 0 where
  spends : Completed m n r cs x.1 x.2 → x.0.steps ≡ j + n → x.0.stop ≡ stop.Spent x.1.pc → Ends m n j r cs x
  calls : (k : ℕ) (r' : Registers) (cs' : Row) → k < n → Completed m k r cs r' cs' → advanced m r' cs' ≡ (Calls x.0.stop, x.1, x.2) → x.0.steps ≡ j + k + 1 → Ends m n j r cs x
  stops : (k : ℕ) (cs' : Row) → k < n → Completed m k r cs x.1 cs' → advanced m x.1 cs' ≡ (Stops x.0.stop, x.1, x.2) → x.0.steps ≡ j + k → Ends m n j r cs x

after_step : (m : UserMap) (n j : ℕ) (r q : Registers) (cs ds : Row) (x : Ran × Registers × Row) → advanced m r cs ≡ (Goes, q, ds) → Ends m n (j + 1) q ds x → Ends m (suc n) j r cs x
after_step m n j r q cs ds x e (spends c s z) = spends (record { registers = q; cells = ds; goes = e; rest = c }) (omega (arith, s)) z
after_step m n j r q cs ds x e (calls k r' cs' l c a s) = calls (suc k) r' cs' (omega (arith, l)) (record { registers = q; cells = ds; goes = e; rest = c }) a (omega (arith, s))
after_step m n j r q cs ds x e (stops k cs' l c a s) = stops (suc k) cs' (omega (arith, l)) (record { registers = q; cells = ds; goes = e; rest = c }) a (omega (arith, s))

ends : (m : UserMap) (n j : ℕ) (r : Registers) (cs : Row) → Ends m n j r cs (runs n j m r cs)
ends m zero j r cs = spends (refl, refl) (omega arith) refl
ends m (suc n) j r cs = go (advanced m r cs) refl (advanced_kept m r cs) (λ q ds. ends m n (j + 1) q ds)
  where
    go : (d : Turn × Registers × Row) → advanced m r cs ≡ d → Kept r d → ((q : Registers) (ds : Row) → Ends m n (j + 1) q ds (runs n (j + 1) m q ds)) → Ends m (suc n) j r cs (settled d j (λ q ds. runs n (j + 1) m q ds))
    go (Goes, q, ds) e h more = after_step m n j r q cs ds _ e (more q ds)
    go (Calls s, q, ds) e h more = calls 0 r cs (omega arith) (refl, refl) e (omega arith)
    go (Stops s, q, ds) e h more = stops 0 cs (omega arith) (h, refl) (ap (λ (v : Registers). advanced m v cs) h ∙ e) (omega arith)

lawful : (m : UserMap) (n : ℕ) (r : Registers) (cs : Row) (x : Ran × Registers × Row) → Ends m n 0 r cs x → RunLaw m n r cs x.0.steps x.0.stop x.1 x.2
lawful m n r cs x (spends c s z) = spent c (omega (arith, s)) z
lawful m n r cs x (calls k r' cs' l c a s) = called k r' cs' l c a (omega (arith, s))
lawful m n r cs x (stops k cs' l c a s) = stopped k cs' l c a (omega (arith, s))

run_by_stepwise : (k : Kind) (who : Who) (cs : Row) (u : User) (n : ℕ) → let x = run_by k who cs u n in RanBy n u cs x.0 x.1 x.2
run_by_stepwise Held who cs u n = tt
run_by_stepwise Ready who cs u n = lawful u.map n u.registers cs (runs n 0 u.map u.registers cs) (ends u.map n 0 u.registers cs)

pub stepwise : (s : State) (k : Call) → let x = call s k in Stepwise s k x.0 x.1
stepwise s (Call.map w) = tt
stepwise s (Call.put at w) = tt
stepwise s (Call.get at) = tt
stepwise s (Call.start who r) = tt
stepwise s (Call.run A n) = run_by_stepwise s.a.kind A s.cells s.a n
stepwise s (Call.run B n) = run_by_stepwise s.b.kind B s.cells s.b n
stepwise s (Call.show who) = tt
