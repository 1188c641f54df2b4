-- Calls that were made, and the laws over calls and pasts.
use Rattle.std.specs.Prelude.{◌≡◌, ℕ, zero, suc, ◌+◌, ◌/◌, ◌<◌, ◌≤◌, Bool, List, [], ◌∷◌, ◌++◌, Some, None, Option, slice_index_or}
use Rattle.memory.specs.Cells.{Row}
use Rattle.model.specs.declared.steps.Turn.TheVariants.{Goes, Calls, Stops}
use Rattle.model.specs.declared.stop.Stop.{Stop}
use Rattle.model.specs.declared.stop.Stop.TheVariants.{Spent}
use Rattle.model.specs.declared.user.Page.{Page}
use Rattle.model.specs.declared.user.Registers.{Registers}
use Rattle.model.specs.declared.user.User.{User}
use Rattle.model.specs.declared.user.UserMap.{UserMap}
use Rattle.model.specs.Numbers.{number_of, values_of}
use Rattle.model.specs.Run.{advanced, runs}
use Rattle.model.specs.Machine.{Call, map, put, get, start, run, show, Answer, denied, refused, granted, got, permit, ran, shown, State, user_of, call, Acted}
use Rattle.model.specs.Isolation.{Past, Agreement, Same, MapWithin, MapFenced}

-- ---- laws of one call
-- if it is denied: a number from 1 to 8, and that
abbrev pub IfDenied : Answer → Type 0 → Type 0
IfDenied (denied d) P = (1 ≤ number_of d) × (number_of d ≤ 8) × P
IfDenied (refused d w k) P = (1 ≤ number_of d) × (number_of d ≤ 8) × P
IfDenied granted P = Unit {0}
IfDenied (got w) P = Unit {0}
IfDenied (permit w k) P = Unit {0}
IfDenied (ran n s w k) P = Unit {0}
IfDenied (shown r k s) P = Unit {0}

-- a run makes at most its budget of steps, and its reason is from 10 to 19
abbrev pub Bounded : ℕ → Answer → Type 0
Bounded b (denied d) = Unit {0}
Bounded b (refused d w k) = Unit {0}
Bounded b granted = Unit {0}
Bounded b (got w) = Unit {0}
Bounded b (permit w k) = Unit {0}
Bounded b (ran n s w k) = (n ≤ b) × (10 ≤ (values_of s).reason) × ((values_of s).reason ≤ 19)
Bounded b (shown r k s) = Unit {0}

abbrev pub RunBounded : Call → Answer → Type 0
RunBounded (map w) x = Unit {0}
RunBounded (put at w) x = Unit {0}
RunBounded (get at) x = Unit {0}
RunBounded (start who r) x = Unit {0}
RunBounded (run who n) x = Bounded n x
RunBounded (show who) x = Unit {0}

-- ---- the law of a run: completed steps one after the other, and then its stop

-- a completed step to some registers and cells, of which the rest holds
pub record StepTo (m : UserMap) (r : Registers) (cs : Row) (Rest : Registers → Row → Type 0) : Type 0 where
  pub registers : Registers
  pub cells : Row
  pub goes : advanced m r cs ≡ (Goes, registers, cells)
  pub rest : Rest registers cells

-- k completed steps lead from registers r and cells cs to q and ds
abbrev pub Completed : UserMap → ℕ → Registers → Row → Registers → Row → Type 0
Completed m zero r cs q ds = (q ≡ r) × (ds ≡ cs)
Completed m (suc k) r cs q ds = StepTo m r cs (λ r' cs'. Completed m k r' cs' q ds)

-- a run of budget n made `steps` steps and ended by `stop` with the registers q and the cells ds:
-- all n were completed; or after k of them the supervisor was called, which counts; or the next one was not completed,
-- which leaves the registers as they were before it
pub data RunLaw (m : UserMap) (n : ℕ) (r : Registers) (cs : Row) (steps : ℕ) (stop : Stop) (q : Registers) (ds : Row) : Type 0 where
  spent : Completed m n r cs q ds → steps ≡ n → stop ≡ Spent q.pc → RunLaw m n r cs steps stop q ds
  called : (k : ℕ) (r' : Registers) (cs' : Row) → k < n → Completed m k r cs r' cs' → advanced m r' cs' ≡ (Calls stop, q, ds) → steps ≡ k + 1 → RunLaw m n r cs steps stop q ds
  stopped : (k : ℕ) (cs' : Row) → k < n → Completed m k r cs q cs' → advanced m q cs' ≡ (Stops stop, q, ds) → steps ≡ k → RunLaw m n r cs steps stop q ds

-- of a run that was not denied, of the user u and then v
abbrev pub RanBy : ℕ → User → Row → Answer → User → Row → Type 0
RanBy n u cs (denied d) v ds = Unit {0}
RanBy n u cs (refused d w k) v ds = Unit {0}
RanBy n u cs granted v ds = Unit {0}
RanBy n u cs (got w) v ds = Unit {0}
RanBy n u cs (permit w k) v ds = Unit {0}
RanBy n u cs (ran steps stop w k) v ds = RunLaw u.map n u.registers cs steps stop v.registers ds
RanBy n u cs (shown r k s) v ds = Unit {0}

abbrev pub Stepwise : State → Call → Answer → State → Type 0
Stepwise s (map w) x t = Unit {0}
Stepwise s (put at w) x t = Unit {0}
Stepwise s (get at) x t = Unit {0}
Stepwise s (start who r) x t = Unit {0}
Stepwise s (run who n) x t = RanBy n (user_of who s) s.cells x (user_of who t) t.cells
Stepwise s (show who) x t = Unit {0}

-- ---- laws of a past
-- an entry's block lies inside a memory of n cells
abbrev pub Inside : ℕ → Option Page → Type 0
Inside n None = Unit {0}
Inside n (Some p) = p.block < n / 1024

abbrev pub Lodged : ℕ → User → Type 0
Lodged n u = (i : ℕ) → Inside n (slice_index_or u.map.entries i None)

-- the cause of a memory stop is a spoiled cell
abbrev pub SpoiledOnly : Answer → Type 0
SpoiledOnly (denied d) = Unit {0}
SpoiledOnly (refused d w k) = Unit {0}
SpoiledOnly granted = Unit {0}
SpoiledOnly (got w) = Unit {0}
SpoiledOnly (permit w k) = Unit {0}
SpoiledOnly (ran n s w k) = (values_of s).reason ≡ 15 → (values_of s).cause ≡ 2
SpoiledOnly (shown r k s) = Unit {0}

abbrev pub All : (Answer → Type 0) → List Answer → Type 0
All P [] = Unit {0}
All P (x ∷ xs) = P x × All P xs

-- the memory has kept its size, every entry leads inside it, and no run has met its end
pub record Orderly (c : Row) (xs : List Answer) (s : State) : Type 0 where
  pub size : s.cells.size ≡ c.size
  pub entries : Lodged c.size s.a × Lodged c.size s.b
  pub causes : All SpoiledOnly xs

abbrev pub Order : Type 0
Order = (c : Row) (p : List Call) (xs : List Answer) (s : State) → Past c p xs s → Orderly c xs s

-- ---- a call that was made: its answer and the state after it are the rules'
pub record Did (s : State) (k : Call) (x : Answer) (t : State) : Type 0 where
  pub answer : x ≡ (call s k).0
  pub after : t ≡ (call s k).1

-- what a user's call came to, part by part
pub record Acts (y : Acted) (x : Answer) (u : User) (cs : Row) : Type 0 where
  pub answer : x ≡ y.0
  pub user : u ≡ y.1
  pub cells : cs ≡ y.2

-- every past of the machine goes on by the call and its answer
abbrev pub Continues : State → Call → Answer → State → Type 0
Continues s k x t = (c : Row) (p : List Call) (xs : List Answer) → Past c p xs s → Past c (p ++ (k ∷ [])) (xs ++ (x ∷ [])) t

-- a call, as the contracts say it: its answer and the state after it are the rules', every past goes on by it, and it keeps the laws
pub record Happens (s : State) (k : Call) (x : Answer) (t : State) : Type 0 where
  pub did : Did s k x t
  pub past : Continues s k x t
  pub unchanged : IfDenied x (t ≡ s)
  pub bounded : RunBounded k x
  pub stepwise : Stepwise s k x t

-- the agreement of any two machines
abbrev pub Agreements : Type 0
Agreements = (s t : State) → Agreement s t

-- ---- what any program can read and alter goes by its user's map

-- through entries that lead into `mine` alone, what a run comes to rests on the cells of `mine` alone
abbrev pub Locality : Type 0
Locality =
    (mine : ℕ → Bool) (m : UserMap) → MapWithin mine m → (n : ℕ) (r : Registers) (c d : Row) → Same mine c d →
    let x = runs n 0 m r c in let y = runs n 0 m r d in (x.0 ≡ y.0) × (x.1 ≡ y.1) × Same mine x.2 y.2

-- where every entry that leads into `mine` refuses writes, a run leaves the cells of `mine` as they were
abbrev pub Frame : Type 0
Frame = (mine : ℕ → Bool) (m : UserMap) → MapFenced mine m → (n : ℕ) (r : Registers) (c : Row) → Same mine c (runs n 0 m r c).2
