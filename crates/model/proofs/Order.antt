-- Along any past every entry leads inside the memory, so that a memory stop is by a spoiled cell.
use Rattle.std.proofs.Common.{◌≡◌, ℕ, zero, suc, ◌+◌, ◌/◌, ◌%◌, ◌<◌, Bool, false, cond, ◌&&◌, eqb, ltb, List, [], ◌∷◌, get_or, Some, None, Ok, Err, Option, Result, sym, refl, ap, ◌∙◌, subst, arith, ltb-true, lt-ltb}
use Rattle.std.proofs.lemmas.Bool.{cond_both}
use mathlib.Core.Bool.{false≢true}
use Rattle.memory.specs.Cells.{Cell, Row, word, spoiled}
use Rattle.memory.specs.Answers as memory
use Rattle.memory.specs.Numbers.{fault_number}
use Rattle.memory.specs.declared.fault.MemoryFault.{MemoryFault}
use Rattle.memory.specs.declared.fault.MemoryFault.TheVariants as unread
use Rattle.model.specs.declared.fault.Fault.{Fault}
use Rattle.model.specs.declared.fault.Fault.TheVariants as fault
use Rattle.model.specs.declared.fault.MapFault.TheVariants as refusal
use Rattle.model.specs.declared.user.Kind.{Kind}
use Rattle.model.specs.declared.user.Kind.TheVariants.{Held, Ready}
use Rattle.model.specs.declared.fault.MapFault.{MapFault}
use Rattle.model.specs.declared.steps.Outcome.{Outcome}
use Rattle.model.specs.declared.steps.Outcome.TheVariants.{Next, Called}
use Rattle.model.specs.declared.user.Page.{Page}
use Rattle.model.specs.declared.steps.Ran.{Ran}
use Rattle.model.specs.declared.user.Registers.{Registers}
use Rattle.model.specs.declared.stop.Stop.{Stop}
use Rattle.model.specs.declared.stop.Stop.TheVariants as stop
use Rattle.model.specs.declared.steps.Turn.{Turn}
use Rattle.model.specs.declared.steps.Turn.TheVariants.{Goes, Calls, Stops}
use Rattle.model.specs.declared.user.User.{User}
use Rattle.model.specs.declared.user.UserMap.{UserMap}
use Rattle.model.specs.declared.user.Who.{Who}
use Rattle.model.specs.declared.user.Who.TheVariants.{A, B}
use Rattle.model.specs.Numbers.{values_of}
use Rattle.model.specs.Faults.{Halt, chain, device, stack, code, execute, from_program, located, faulted, raised}
use Rattle.model.specs.Access.{Access, ret, halt, reading, writing, ◌>>=◌, page_at, placed, Done, read_at, write_at, fetching, putting, onward, perform}
use Rattle.model.specs.Step.{instruction}
use Rattle.model.specs.Run.{settle, turned, with_word, executed, advanced, settled, runs}
use Rattle.model.specs.Machine.{Answer, Acted, Deed, block, status, unlisted, start, run, show, act, started, run_by, Call, Sense, of, poke, peek, wordless, sense, State, after_read, after_write, carried, call, replay, fresh}
use Rattle.model.specs.Isolation.{Within, Fenced, MapWithin, Owned}
use Rattle.model.specs.Laws.{Inside, SpoiledOnly, All, Order}
use Rattle.model.proofs.Locality.{perform_frame, advanced_frame}
use Rattle.model.proofs.Acts.{AllWithin, act_size, act_within}
use Rattle.model.proofs.Isolation.{written_size, each_none}

-- a fault is by no end of the memory
abbrev Clear : Fault → Type 0
Clear (fault.Map (refusal.Validity l)) = Unit {0}
Clear (fault.Map (refusal.Protected l)) = Unit {0}
Clear (fault.Map (refusal.Memory e)) = e.cause ≡ unread.Spoiled
Clear (fault.Chain l) = Unit {0}
Clear fault.Device = Unit {0}
Clear fault.Stack = Unit {0}
Clear fault.Code = Unit {0}
Clear fault.Execute = Unit {0}

-- nor is a program's own
halt_clear : (e : Halt) → Clear (from_program e)
halt_clear (chain a) = tt
halt_clear device = tt
halt_clear stack = tt
halt_clear code = tt
halt_clear execute = tt

abbrev Clean : {X : Type 0} → Result X Fault → Type 0
Clean (Ok x) = Unit {0}
Clean (Err e) = Clear e

-- the blocks of a memory of n cells
abbrev pub below : ℕ → ℕ → Bool
below n b = ltb b (n / 1024)

placed_inside : (n : ℕ) (p : Page) (a : ℕ) → p.block < n / 1024 → placed p a < n
placed_inside n p a h = omega (arith, h)

told_clean : (p a : ℕ) (x : Cell) → Clean (raised (faulted (located (memory.told x) p a)))
told_clean p a (word w) = tt
told_clean p a spoiled = refl

module _ (n : ℕ) where
  read_clean : (e : Option Page) → Within (below n) e → (c : Row) → c.size ≡ n → (a : ℕ) → Clean (raised (read_at e c a))
  read_clean None i c s a = tt
  read_clean (Some p) i c s a =
      let h = placed_inside n p a (ltb-true p.block (n / 1024) i) in
      subst (λ (b : Bool). Clean (raised (faulted (located (cond b (memory.told (c.at (placed p a))) (Err unread.Range)) (placed p a) a))))
      (sym (lt-ltb (placed p a) c.size (subst (λ (k : ℕ). placed p a < k) (sym s) h)))
      (told_clean (placed p a) a (c.at (placed p a)))

  write_clean : (e : Option Page) → Within (below n) e → (on : Bool) (c : Row) → c.size ≡ n → (a : ℕ) → Clean (raised (write_at e on c a))
  write_clean None i on c s a = tt
  write_clean (Some p) i on c s a =
      let h = placed_inside n p a (ltb-true p.block (n / 1024) i) in
      cond_both (on && p.protected) _ _ (λ (x : Result (Unit {0}) MapFault). Clean (raised x)) (λ t. tt)
      (λ t.
      subst (λ (b : Bool). Clean (raised (faulted (located {X = Unit {0}} (cond b (Ok tt) (Err unread.Range)) (placed p a) a))))
      (sym (lt-ltb (placed p a) c.size (subst (λ (k : ℕ). placed p a < k) (sym s) h))) tt)

  unfenced : (on : Bool) (e : Option Page) → Fenced (λ b. false) on e
  unfenced on None = tt
  unfenced on (Some p) = λ m. absurd (false≢true m)

  perform_size : {X : Type 0} (m : UserMap) (c : Row) (t : Access X) → (perform m c t).1.size ≡ c.size
  perform_size m c t = sym (perform_frame (λ b. false) m (λ i. unfenced m.switches.write (get_or m.entries i None)) c t).size

  advanced_size : (m : UserMap) (r : Registers) (c : Row) → (advanced m r c).2.size ≡ c.size
  advanced_size m r c = sym (advanced_frame (λ b. false) m (λ i. unfenced m.switches.write (get_or m.entries i None)) r c).size

  onward_clean : {X Y : Type 0} (p : Done X) → Clean p.0 → p.1.size ≡ n → (k : X → Row → Done Y) → ((x : X) (c : Row) → c.size ≡ n → Clean (k x c).0) → Clean (onward p k).0
  onward_clean (Ok x, c) h s k g = g x c s
  onward_clean (Err e, c) h s k g = h

  perform_clean : {X : Type 0} (m : UserMap) → MapWithin (below n) m → (c : Row) → c.size ≡ n → (t : Access X) → Clean (perform m c t).0
  unfolding fetching putting
  perform_clean m i c s (ret x) = tt
  perform_clean m i c s (halt e) = halt_clear e
  perform_clean m i c s (reading a) = read_clean (page_at m a) (i (a / 1024 % 32)) c s a
  perform_clean m i c s (writing a w) = write_clean (page_at m a) (i (a / 1024 % 32)) m.switches.write c s a
  perform_clean m i c s (t >>= f) =
      onward_clean (perform m c t) (perform_clean m i c s t) (perform_size m c t ∙ s) (λ x c'. perform m c' (f x)) (λ x c' s'. perform_clean m i c' s' (f x))

  -- ---- a stop, a step, a run
  abbrev Good : Stop → Type 0
  Good s = (values_of s).reason ≡ 15 → (values_of s).cause ≡ 2

  clear_good : (a w : ℕ) (e : Fault) → Clear e → Good (stop.Faulted a w e)
  clear_good a w (fault.Map (refusal.Validity l)) h q = absurd (omega (arith, q))
  clear_good a w (fault.Map (refusal.Protected l)) h q = absurd (omega (arith, q))
  clear_good a w (fault.Map (refusal.Memory e)) h q = ap fault_number h
  clear_good a w (fault.Chain l) h q = absurd (omega (arith, q))
  clear_good a w fault.Device h q = absurd (omega (arith, q))
  clear_good a w fault.Stack h q = absurd (omega (arith, q))
  clear_good a w fault.Code h q = absurd (omega (arith, q))
  clear_good a w fault.Execute h q = absurd (omega (arith, q))

  abbrev TurnGood : Turn → Type 0
  TurnGood Goes = Unit {0}
  TurnGood (Calls s) = Good s
  TurnGood (Stops s) = Good s

  turn_good : (r : Registers) (w : ℕ) (p : Done (Outcome × Registers)) → Clean p.0 → TurnGood (turned r.pc w (settle r p)).0
  turn_good r w (Ok (Next, q), c) h = tt
  turn_good r w (Ok (Called, q), c) h = λ z. absurd (omega (arith, z))
  turn_good r w (Err e, c) h = clear_good r.pc w e h

  word_good : (r : Registers) (p : Done ℕ) → Clean p.0 → p.1.size ≡ n → (k : ℕ → Row → Turn × Registers × Row) → ((w : ℕ) (c : Row) → c.size ≡ n → TurnGood (k w c).0) → TurnGood (with_word r p k).0
  word_good r (Ok w, c) h s k g = g w c s
  word_good r (Err e, c) h s k g = clear_good r.pc 0 e h

  advanced_good : (m : UserMap) → MapWithin (below n) m → (r : Registers) (c : Row) → c.size ≡ n → TurnGood (advanced m r c).0
  advanced_good m i r c s =
      word_good r (perform m c (reading r.pc)) (perform_clean m i c s (reading r.pc)) (perform_size m c (reading r.pc) ∙ s) (executed m r)
      (λ w c' s'. let t = instruction m.switches r w in turn_good r w (perform m c' t) (perform_clean m i c' s' t))

  settled_good : (x : Turn × Registers × Row) → TurnGood x.0 → x.2.size ≡ n → (j : ℕ) (more : Registers → Row → Ran × Registers × Row) → ((q : Registers) (c : Row) → c.size ≡ n → Good (more q c).0.stop) → Good (settled x j more).0.stop
  settled_good (Goes, q, c) h s j more g = g q c s
  settled_good (Calls z, q, c) h s j more g = h
  settled_good (Stops z, q, c) h s j more g = h

  runs_good : (b j : ℕ) (m : UserMap) → MapWithin (below n) m → (r : Registers) (c : Row) → c.size ≡ n → Good (runs b j m r c).0.stop
  runs_good zero j m i r c s = λ q. absurd (omega (arith, q))
  runs_good (suc b) j m i r c s =
      settled_good (advanced m r c) (advanced_good m i r c s) (advanced_size m r c ∙ s) j (λ q ds. runs b (j + 1) m q ds)
      (λ q c' s'. runs_good b (j + 1) m i q c' s')

  run_by_good : (k : Kind) (who : Who) (c : Row) → c.size ≡ n → (u : User) → AllWithin (below n) u → (b : ℕ) → SpoiledOnly (run_by k who c u b).0
  run_by_good Held who c s u i b = tt
  run_by_good Ready who c s u i b = runs_good b 0 u.map i u.registers c s

  started_good : (k : Kind) (who : Who) (c : Row) (u : User) (r : Registers) → SpoiledOnly (started k who c u r).0
  started_good Held who c u r = cond_both (ltb r.pc 32768) _ _ (λ (x : Acted). SpoiledOnly x.0) (λ t. tt) (λ t. tt)
  started_good Ready who c u r = tt

  act_good : (who : Who) (c : Row) → c.size ≡ n → (u : User) → AllWithin (below n) u → (d : Deed) → SpoiledOnly (act who c u d).0
  act_good who c s u i (block l p b) =
      cond_both (p && eqb b 127) _ _ (λ (x : Acted). SpoiledOnly x.0) (λ t. tt) (λ t. cond_both (ltb b (c.size / 1024)) _ _ (λ (x : Acted). SpoiledOnly x.0) (λ t'. tt) (λ t'. tt))
  act_good who c s u i (status w) = tt
  act_good who c s u i unlisted = tt
  act_good who c s u i (start r) = started_good u.kind who c u r
  act_good who c s u i (run b) = run_by_good u.kind who c s u i b
  act_good who c s u i show = tt

  read_good : (x : Result ℕ MemoryFault) → SpoiledOnly (after_read x)
  read_good (Ok w) = tt
  read_good (Err e) = tt

  write_good : (x : Result (Unit {0}) MemoryFault) → SpoiledOnly (after_write x)
  write_good (Ok w) = tt
  write_good (Err e) = tt

  -- ---- any call keeps a machine lodged
  record Housed (s : State) : Type 0 where
    size : s.cells.size ≡ n
    first : AllWithin (below n) s.a
    second : AllWithin (below n) s.b

  owned : (d : Deed) → Owned (below n) n d
  owned (block l p b) = λ h. lt-ltb b (n / 1024) h
  owned (status s) = tt
  owned unlisted = tt
  owned (start r) = tt
  owned (run k) = tt
  owned show = tt

  housed : (s : State) → Housed s → (k : Sense) → Housed (carried s k).1
  housed s h (of A d) = record { size = act_size A s.a s.cells d ∙ h.size; first = act_within (below n) A s.a s.cells n h.size h.first d (owned d); second = h.second }
  housed s h (of B d) = record { size = act_size B s.b s.cells d ∙ h.size; first = h.first; second = act_within (below n) B s.b s.cells n h.size h.second d (owned d) }
  housed s h (poke at w) = record { size = written_size s.cells at w ∙ h.size; first = h.first; second = h.second }
  housed s h (peek at) = h
  housed s h wordless = h

  good : (s : State) → Housed s → (k : Sense) → SpoiledOnly (carried s k).0
  good s h (of A d) = act_good A s.cells h.size s.a h.first d
  good s h (of B d) = act_good B s.cells h.size s.b h.second d
  good s h (poke at w) = write_good (memory.writing s.cells at)
  good s h (peek at) = read_good (memory.reading s.cells at)
  good s h wordless = tt

  inside : (e : Option Page) → Within (below n) e → Inside n e
  inside None i = tt
  inside (Some p) i = ltb-true p.block (n / 1024) i

  replayed : (p : List Call) (s : State) → Housed s → All SpoiledOnly (replay s p).0 × Housed (replay s p).1
  replayed [] s h = (tt, h)
  replayed (k ∷ p) s h = let r = replayed p (call s k).1 (housed s h (sense k)) in ((good s h (sense k), r.0), r.1)

pub order : Order
order c p xs s past =
    let n : ℕ = c.size in
    let start : Housed n (fresh c) = record { size = refl; first = each_none (Within (below n)) None tt 32; second = each_none (Within (below n)) None tt 32 } in
    let r = replayed n p (fresh c) start in
    let h : Housed n s = subst (λ (t : State). Housed n t) (sym past.state) r.1 in
    record {
      size = h.size;
      entries = (λ i. inside n (get_or s.a.map.entries i None) (h.first i), λ i. inside n (get_or s.b.map.entries i None) (h.second i));
      causes = subst (λ (ys : List Answer). All SpoiledOnly ys) (sym past.answers) r.0;
    }
