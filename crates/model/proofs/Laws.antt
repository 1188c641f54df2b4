-- The laws over any state and call.
use Rattle.std.proofs.Common.{◌≡◌, ℕ, zero, suc, ◌+◌, ◌/◌, ◌≤◌, Bool, true, false, cond, ◌&&◌, eqb, ltb, Ok, Err, Result, refl, arith}
use Rattle.std.proofs.lemmas.Bool.{cond_both}
use Rattle.memory.specs.Cells.{Row, put, word}
use Rattle.memory.specs.Answers as memory
use Rattle.memory.specs.declared.fault.MemoryFault.{MemoryFault}
use Rattle.memory.specs.declared.fault.MemoryFault.TheVariants as unread
use Rattle.model.specs.declared.denial.Denial.{Denial}
use Rattle.model.specs.declared.denial.Denial.TheVariants as denial
use Rattle.model.specs.declared.fault.Fault.{Fault}
use Rattle.model.specs.declared.fault.Fault.TheVariants as fault
use Rattle.model.specs.declared.fault.MapFault.TheVariants as refusal
use Rattle.model.specs.declared.steps.Ran.{Ran}
use Rattle.model.specs.declared.steps.Turn.{Turn}
use Rattle.model.specs.declared.steps.Turn.TheVariants.{Goes, Calls, Stops}
use Rattle.model.specs.declared.stop.Stop.{Stop}
use Rattle.model.specs.declared.stop.Stop.TheVariants as stop
use Rattle.model.specs.declared.user.Kind.{Kind}
use Rattle.model.specs.declared.user.Kind.TheVariants.{Held, Ready}
use Rattle.model.specs.declared.user.Registers.{Registers}
use Rattle.model.specs.declared.user.User.{User}
use Rattle.model.specs.declared.user.UserMap.{UserMap}
use Rattle.model.specs.declared.user.Who.{Who}
use Rattle.model.specs.declared.user.Who.TheVariants.{A, B}
use Rattle.model.specs.Numbers.{number_of, values_of, by_fault, from_cause}
use Rattle.model.specs.Run.{advanced, settled, runs}
use Rattle.model.specs.Machine.{Answer, denied, refused, granted, got, permit, ran, shown, Acted, Deed, block, status, unlisted, start, run, show, act, started, run_by, Call, Sense, of, poke, peek, wordless, sense, State, after_read, after_write, carried, call}
use Rattle.model.specs.Laws.{IfDenied, Bounded, RunBounded}

-- ---- a denial has a number from 1 to 8 and changes nothing
numbered : (d : Denial) → (1 ≤ number_of d) × (number_of d ≤ 8)
numbered (denial.Memory unread.Range) = (omega arith, omega arith)
numbered (denial.Memory unread.Spoiled) = (omega arith, omega arith)
numbered denial.Pc = (omega arith, omega arith)
numbered denial.Block = (omega arith, omega arith)
numbered denial.BadOption = (omega arith, omega arith)
numbered denial.Permit = (omega arith, omega arith)
numbered denial.Size = (omega arith, omega arith)
numbered denial.Sheet = (omega arith, omega arith)

with_number : {P : Type 0} (d : Denial) → P → (1 ≤ number_of d) × (number_of d ≤ 8) × P
with_number d p = ((numbered d).0, (numbered d).1, p)

if_map : {P Q : Type 0} (x : Answer) → (P → Q) → IfDenied x P → IfDenied x Q
if_map (denied d) f h = (h.0, h.1, f h.2)
if_map (refused d w k) f h = (h.0, h.1, f h.2)
if_map granted f h = tt
if_map (got w) f h = tt
if_map (permit w k) f h = tt
if_map (ran n s w k) f h = tt
if_map (shown r k s) f h = tt

abbrev Quiet : Row → User → Acted → Type 0
Quiet cs u x = IfDenied x.0 ((x.1 ≡ u) × (x.2 ≡ cs))

started_quiet : (k : Kind) (who : Who) (cs : Row) (u : User) (r : Registers) → Quiet cs u (started k who cs u r)
started_quiet Held who cs u r = cond_both (ltb r.pc 32768) _ _ (Quiet cs u) (λ t. tt) (λ t. with_number denial.Pc (refl, refl))
started_quiet Ready who cs u r = with_number denial.Permit (refl, refl)

run_quiet : (k : Kind) (who : Who) (cs : Row) (u : User) (n : ℕ) → Quiet cs u (run_by k who cs u n)
run_quiet Held who cs u n = with_number denial.Permit (refl, refl)
run_quiet Ready who cs u n = tt

act_quiet : (who : Who) (cs : Row) (u : User) (d : Deed) → Quiet cs u (act who cs u d)
act_quiet who cs u (block l p b) =
    cond_both (p && eqb b 127) _ _ (Quiet cs u) (λ t. tt)
    (λ t. cond_both (ltb b (cs.size / 1024)) _ _ (Quiet cs u) (λ t'. tt) (λ t'. with_number denial.Block (refl, refl)))
act_quiet who cs u (status s) = tt
act_quiet who cs u unlisted = with_number denial.BadOption (refl, refl)
act_quiet who cs u (start r) = started_quiet u.kind who cs u r
act_quiet who cs u (run n) = run_quiet u.kind who cs u n
act_quiet who cs u show = tt

read_quiet : {P : Type 0} (x : Result ℕ MemoryFault) → P → IfDenied (after_read x) P
read_quiet (Ok w) p = tt
read_quiet (Err e) p = with_number (from_cause e) p

sense_unchanged : (s : State) (k : Sense) → IfDenied (carried s k).0 ((carried s k).1 ≡ s)
sense_unchanged s (of A d) =
    if_map (act A s.cells s.a d).0 (λ h. (λ i. record { cells = h.1 i; a = h.0 i; b = s.b })) (act_quiet A s.cells s.a d)
sense_unchanged s (of B d) =
    if_map (act B s.cells s.b d).0 (λ h. (λ i. record { cells = h.1 i; a = s.a; b = h.0 i })) (act_quiet B s.cells s.b d)
sense_unchanged s (poke at w) = go (ltb at s.cells.size)
  where
    go : (b : Bool) →
        IfDenied (after_write (cond b (Ok tt) (Err unread.Range))) (◌≡◌ {A = State} (record { cells = cond b (put s.cells at (word w)) s.cells; a = s.a; b = s.b }) s)
    go true = tt
    go false = with_number (denial.Memory unread.Range) refl
sense_unchanged s (peek at) = read_quiet (memory.reading s.cells at) refl
sense_unchanged s wordless = with_number denial.BadOption refl

pub denied_unchanged : (s : State) (k : Call) → IfDenied (call s k).0 ((call s k).1 ≡ s)
denied_unchanged s k = sense_unchanged s (sense k)

-- ---- a run's steps and reason
fault_reason : (a w : ℕ) (e : Fault) → (10 ≤ (by_fault a w e).reason) × ((by_fault a w e).reason ≤ 19)
fault_reason a w (fault.Map (refusal.Validity l)) = (omega arith, omega arith)
fault_reason a w (fault.Map (refusal.Protected l)) = (omega arith, omega arith)
fault_reason a w (fault.Map (refusal.Memory e)) = (omega arith, omega arith)
fault_reason a w (fault.Chain l) = (omega arith, omega arith)
fault_reason a w fault.Device = (omega arith, omega arith)
fault_reason a w fault.Stack = (omega arith, omega arith)
fault_reason a w fault.Code = (omega arith, omega arith)
fault_reason a w fault.Execute = (omega arith, omega arith)

pub reasons : (s : Stop) → (10 ≤ (values_of s).reason) × ((values_of s).reason ≤ 19)
reasons (stop.Spent a) = (omega arith, omega arith)
reasons (stop.Call a w) = (omega arith, omega arith)
reasons (stop.Faulted a w e) = fault_reason a w e

settled_bound : (x : Turn × Registers × Row) (b n : ℕ) (more : Registers → Row → Ran × Registers × Row) → ((q : Registers) (c : Row) → (more q c).0.steps ≤ n + suc b) → (settled x n more).0.steps ≤ n + suc b
settled_bound (Goes, q, cs) b n more h = h q cs
settled_bound (Calls s, q, cs) b n more h = omega arith
settled_bound (Stops s, q, cs) b n more h = omega arith

runs_bound : (b n : ℕ) (m : UserMap) (r : Registers) (cs : Row) → (runs b n m r cs).0.steps ≤ n + b
runs_bound zero n m r cs = omega arith
runs_bound (suc b) n m r cs =
    settled_bound (advanced m r cs) b n (λ q ds. runs b (n + 1) m q ds)
    (λ q c. let h = runs_bound b (n + 1) m q c in omega (arith, h))

run_by_bounded : (k : Kind) (who : Who) (cs : Row) (u : User) (n : ℕ) → Bounded n (run_by k who cs u n).0
run_by_bounded Held who cs u n = tt
run_by_bounded Ready who cs u n =
    let x = runs n 0 u.map u.registers cs in
    let h = runs_bound n 0 u.map u.registers cs in
    (omega (arith, h), (reasons x.0.stop).0, (reasons x.0.stop).1)

pub run_bounded : (s : State) (k : Call) → RunBounded k (call s k).0
run_bounded s (Call.map w) = tt
run_bounded s (Call.put at w) = tt
run_bounded s (Call.get at) = tt
run_bounded s (Call.start who r) = tt
run_bounded s (Call.run A n) = run_by_bounded s.a.kind A s.cells s.a n
run_bounded s (Call.run B n) = run_by_bounded s.b.kind B s.cells s.b n
run_bounded s (Call.show who) = tt
