-- What a step, and a run of steps, of a user can read and alter.
use Rattle.std.proofs.Common.{◌≡◌, ℕ, zero, suc, ◌+◌, ◌/◌, ◌%◌, Bool, true, ◌&&◌, Some, None, Ok, Err, Option, Result, sym, refl, ap, ◌∙◌, subst, subst₂, true≢false, arith}
use Rattle.std.proofs.lemmas.Bool.{cond_both}
use Rattle.memory.specs.Cells.{Row, word}
use Rattle.memory.specs.declared.fault.MemoryFault.{MemoryFault}
use Rattle.model.specs.declared.fault.Fault.{Fault}
use Rattle.model.specs.declared.steps.Outcome.{Outcome}
use Rattle.model.specs.declared.steps.Outcome.TheVariants.{Next, Called}
use Rattle.model.specs.declared.steps.Ran.{Ran}
use Rattle.model.specs.declared.steps.Turn.{Turn}
use Rattle.model.specs.declared.steps.Turn.TheVariants.{Goes, Calls, Stops}
use Rattle.model.specs.declared.user.Page.{Page}
use Rattle.model.specs.declared.user.Registers.{Registers}
use Rattle.model.specs.declared.user.UserMap.{UserMap}
use Rattle.model.specs.Faults.{located, faulted, raised}
use Rattle.model.specs.Access.{Access, ret, halt, reading, writing, ◌>>=◌, page_at, placed, Done, read_at, write_at, written_at, fetching, putting, onward, perform}
use Rattle.model.specs.Step.{instruction}
use Rattle.model.specs.Run.{settle, turned, with_word, executed, advanced, settled, runs}
use Rattle.model.specs.Laws.{Locality, Frame}
use Rattle.model.specs.Isolation.{Within, Fenced, MapWithin, MapFenced, Same}
use Rattle.model.proofs.Rows.{cond_rel, same_refl, same_trans, same_reading, same_writing, same_written, same_apart}

pub placed_block : (p : Page) (a : ℕ) → placed p a / 1024 ≡ p.block
placed_block p a = omega arith

module _ (mine : ℕ → Bool) where
  abbrev pub Both : {X : Type 0} → X × Row → X × Row → Type 0
  Both p q = (p.0 ≡ q.0) × Same mine p.1 q.1

  -- ---- locality: through entries within `mine`, what a step comes to rests on `mine` alone
  read_local : (e : Option Page) → Within mine e → (a : ℕ) (c d : Row) → Same mine c d → read_at e c a ≡ read_at e d a
  read_local None i a c d s = refl
  read_local (Some p) i a c d s =
      ap (λ (x : Result ℕ MemoryFault). faulted (located x (placed p a) a))
      (same_reading (placed p a) (subst (λ (b : ℕ). mine b ≡ true) (sym (placed_block p a)) i) s)

  write_local : (e : Option Page) (on : Bool) (a : ℕ) (c d : Row) → Same mine c d → write_at e on c a ≡ write_at e on d a
  write_local None on a c d s = refl
  write_local (Some p) on a c d s =
      cond_rel (λ x y. x ≡ y) (on && p.protected) (on && p.protected) refl (λ t. refl)
      (ap (λ (x : Result (Unit {0}) MemoryFault). faulted (located x (placed p a) a)) (same_writing (placed p a) s))

  written_local : (e : Option Page) (on : Bool) (a w : ℕ) (c d : Row) → Same mine c d → Same mine (written_at e on c a w) (written_at e on d a w)
  written_local None on a w c d s = s
  written_local (Some p) on a w c d s =
      cond_rel (Same mine) (on && p.protected) (on && p.protected) refl (λ t. s) (same_written (placed p a) (word w) s)

  onward_same : {X Y : Type 0} (r : Result X Fault) (c d : Row) → Same mine c d → (k : X → Row → Done Y) → ((x : X) (c' d' : Row) → Same mine c' d' → Both (k x c') (k x d')) → Both (onward (r, c) k) (onward (r, d) k)
  onward_same (Ok x) c d s k h = h x c d s
  onward_same (Err e) c d s k h = (refl, s)

  onward_local : {X Y : Type 0} (p q : Done X) → Both p q → (k : X → Row → Done Y) → ((x : X) (c' d' : Row) → Same mine c' d' → Both (k x c') (k x d')) → Both (onward p k) (onward q k)
  onward_local (r, c) (r', d) b k h = subst (λ z. Both (onward (r, c) k) (onward (z, d) k)) b.0 (onward_same r c d b.1 k h)

  pub perform_local : {X : Type 0} (m : UserMap) → MapWithin mine m → (c d : Row) → Same mine c d → (t : Access X) → Both (perform m c t) (perform m d t)
  unfolding fetching putting
  perform_local m i c d s (ret x) = (refl, s)
  perform_local m i c d s (halt e) = (refl, s)
  perform_local m i c d s (reading a) = (ap raised (read_local (page_at m a) (i (a / 1024 % 32)) a c d s), s)
  perform_local m i c d s (writing a w) = (ap raised (write_local (page_at m a) m.switches.write a c d s), written_local (page_at m a) m.switches.write a w c d s)
  perform_local m i c d s (t >>= f) = onward_local (perform m c t) (perform m d t) (perform_local m i c d s t) (λ x cs'. perform m cs' (f x)) (λ x c' d' s'. perform_local m i c' d' s' (f x))

  -- ---- frame: through fenced entries a step leaves `mine` as it was
  written_frame : (e : Option Page) (on : Bool) → Fenced mine on e → (a w : ℕ) (c : Row) → Same mine c (written_at e on c a w)
  written_frame None on f a w c = same_refl
  written_frame (Some p) on f a w c =
      cond_both (on && p.protected) _ _ (Same mine c) (λ t. same_refl)
      (λ t. same_apart (placed p a) (word w) (λ l m. true≢false (sym (f (subst (λ (b : ℕ). mine b ≡ true) (placed_block p a) m)) ∙ t)))

  onward_frame : {X Y : Type 0} (c : Row) (p : Done X) → Same mine c p.1 → (k : X → Row → Done Y) → ((x : X) (c' : Row) → Same mine c' (k x c').1) → Same mine c (onward p k).1
  onward_frame c (Ok x, c') s k h = same_trans s (h x c')
  onward_frame c (Err e, c') s k h = s

  pub perform_frame : {X : Type 0} (m : UserMap) → MapFenced mine m → (c : Row) (t : Access X) → Same mine c (perform m c t).1
  unfolding fetching putting
  perform_frame m f c (ret x) = same_refl
  perform_frame m f c (halt e) = same_refl
  perform_frame m f c (reading a) = same_refl
  perform_frame m f c (writing a w) = written_frame (page_at m a) m.switches.write (f (a / 1024 % 32)) a w c
  perform_frame m f c (t >>= g) = onward_frame c (perform m c t) (perform_frame m f c t) (λ x cs'. perform m cs' (g x)) (λ x c'. perform_frame m f c' (g x))

  -- ---- the same of a step with its fetch, and of a run
  abbrev pub Trio : {X : Type 0} → X × Registers × Row → X × Registers × Row → Type 0
  Trio p q = (p.0 ≡ q.0) × (p.1 ≡ q.1) × Same mine p.2 q.2

  turn_same : (r : Registers) (w : ℕ) (x : Result (Outcome × Registers) Fault) (c d : Row) → Same mine c d → Trio (turned r.pc w (settle r (x, c))) (turned r.pc w (settle r (x, d)))
  turn_same r w (Ok (Next, q)) c d s = (refl, refl, s)
  turn_same r w (Ok (Called, q)) c d s = (refl, refl, s)
  turn_same r w (Err e) c d s = (refl, refl, s)

  turn_local : (r : Registers) (w : ℕ) (p q : Done (Outcome × Registers)) → Both p q → Trio (turned r.pc w (settle r p)) (turned r.pc w (settle r q))
  turn_local r w (x, c) (y, d) b =
      subst (λ (z : Result (Outcome × Registers) Fault). Trio (turned r.pc w (settle r (x, c))) (turned r.pc w (settle r (z, d)))) b.0 (turn_same r w x c d b.1)

  executed_local : (m : UserMap) → MapWithin mine m → (r : Registers) (w : ℕ) (c d : Row) → Same mine c d → Trio (executed m r w c) (executed m r w d)
  executed_local m i r w c d s =
      let t = instruction m.switches r w in
      turn_local r w (perform m c t) (perform m d t) (perform_local m i c d s t)

  word_same : (r : Registers) (x : Result ℕ Fault) (c d : Row) → Same mine c d → (k : ℕ → Row → Turn × Registers × Row) → ((w : ℕ) (c' d' : Row) → Same mine c' d' → Trio (k w c') (k w d')) → Trio (with_word r (x, c) k) (with_word r (x, d) k)
  word_same r (Ok w) c d s k h = h w c d s
  word_same r (Err e) c d s k h = (refl, refl, s)

  word_local : (r : Registers) (p q : Done ℕ) → Both p q → (k : ℕ → Row → Turn × Registers × Row) → ((w : ℕ) (c' d' : Row) → Same mine c' d' → Trio (k w c') (k w d')) → Trio (with_word r p k) (with_word r q k)
  word_local r (x, c) (y, d) b k h = subst (λ (z : Result ℕ Fault). Trio (with_word r (x, c) k) (with_word r (z, d) k)) b.0 (word_same r x c d b.1 k h)

  pub advanced_local : (m : UserMap) → MapWithin mine m → (r : Registers) (c d : Row) → Same mine c d → Trio (advanced m r c) (advanced m r d)
  advanced_local m i r c d s =
      word_local r (perform m c (reading r.pc)) (perform m d (reading r.pc)) (perform_local m i c d s (reading r.pc)) (executed m r) (executed_local m i r)

  settled_same : (x : Turn) (q : Registers) (c d : Row) → Same mine c d → (n : ℕ) (k : Registers → Row → Ran × Registers × Row) → ((r : Registers) (c' d' : Row) → Same mine c' d' → Trio (k r c') (k r d')) → Trio (settled (x, q, c) n k) (settled (x, q, d) n k)
  settled_same Goes q c d s n k h = h q c d s
  settled_same (Calls z) q c d s n k h = (refl, refl, s)
  settled_same (Stops z) q c d s n k h = (refl, refl, s)

  settled_local : (x y : Turn × Registers × Row) → Trio x y → (n : ℕ) (k : Registers → Row → Ran × Registers × Row) → ((r : Registers) (c' d' : Row) → Same mine c' d' → Trio (k r c') (k r d')) → Trio (settled x n k) (settled y n k)
  settled_local (x, q, c) (y, q', d) b n k h =
      subst₂ (λ (z : Turn) (v : Registers). Trio (settled (x, q, c) n k) (settled (z, v, d) n k)) b.0 b.1 (settled_same x q c d b.2 n k h)

  pub runs_local : (b n : ℕ) (m : UserMap) → MapWithin mine m → (r : Registers) (c d : Row) → Same mine c d → Trio (runs b n m r c) (runs b n m r d)
  runs_local zero n m i r c d s = (refl, refl, s)
  runs_local (suc b) n m i r c d s =
      settled_local (advanced m r c) (advanced m r d) (advanced_local m i r c d s) n (λ q ds. runs b (n + 1) m q ds) (λ q c' d' s'. runs_local b (n + 1) m i q c' d' s')

  turn_frame : (r : Registers) (w : ℕ) (c : Row) (p : Done (Outcome × Registers)) → Same mine c p.1 → Same mine c (turned r.pc w (settle r p)).2
  turn_frame r w c (Ok (Next, q), c') s = s
  turn_frame r w c (Ok (Called, q), c') s = s
  turn_frame r w c (Err e, c') s = s

  word_frame : (r : Registers) (c : Row) (p : Done ℕ) → Same mine c p.1 → (k : ℕ → Row → Turn × Registers × Row) → ((w : ℕ) (c' : Row) → Same mine c' (k w c').2) → Same mine c (with_word r p k).2
  word_frame r c (Ok w, c') s k h = same_trans s (h w c')
  word_frame r c (Err e, c') s k h = s

  pub advanced_frame : (m : UserMap) → MapFenced mine m → (r : Registers) (c : Row) → Same mine c (advanced m r c).2
  advanced_frame m f r c =
      word_frame r c (perform m c (reading r.pc)) (perform_frame m f c (reading r.pc)) (executed m r)
      (λ w c'. let t = instruction m.switches r w in turn_frame r w c' (perform m c' t) (perform_frame m f c' t))

  settled_frame : (c : Row) (x : Turn × Registers × Row) → Same mine c x.2 → (n : ℕ) (k : Registers → Row → Ran × Registers × Row) → ((r : Registers) (c' : Row) → Same mine c' (k r c').2) → Same mine c (settled x n k).2
  settled_frame c (Goes, q, c') s n k h = same_trans s (h q c')
  settled_frame c (Calls z, q, c') s n k h = s
  settled_frame c (Stops z, q, c') s n k h = s

  pub runs_frame : (b n : ℕ) (m : UserMap) → MapFenced mine m → (r : Registers) (c : Row) → Same mine c (runs b n m r c).2
  runs_frame zero n m f r c = same_refl
  runs_frame (suc b) n m f r c =
      settled_frame c (advanced m r c) (advanced_frame m f r c) n (λ q ds. runs b (n + 1) m q ds) (λ q c'. runs_frame b (n + 1) m f q c')

pub locality : Locality
locality mine m i n r c d s = runs_local mine n 0 m i r c d s

pub frame : Frame
frame mine m f n r c = runs_frame mine n 0 m f r c
