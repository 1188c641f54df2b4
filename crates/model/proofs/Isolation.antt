-- The agreement: what a user's calls come to rests on that user's calls and blocks alone.
use Rattle.std.proofs.Common.{◌≡◌, ℕ, zero, suc, ◌/◌, ◌<◌, Bool, true, false, ◌&&◌, ltb, List, [], ◌∷◌, get_or, replicate, None, sym, refl, ap, ◌∙◌, subst, ap₂, subst₂, true≢false, lt-ltb}
use Rattle.std.proofs.lemmas.Bool.{cond_both}
use mathlib.Core.Bool.{false≢true}
use Rattle.memory.specs.Cells.{Row, word}
use Rattle.memory.specs.Answers.{written}
use Rattle.model.specs.declared.user.User.{User}
use Rattle.model.specs.declared.user.Who.{Who}
use Rattle.model.specs.declared.user.Who.TheVariants.{A, B}
use Rattle.model.specs.Machine.{Answer, Deed, act, Call, Sense, of, poke, peek, wordless, sense, State, user_of, carried, call, after_read, after_write, replay, fresh}
use Rattle.model.specs.Isolation.{Within, Fenced, Same, Alike, FairSense, Fair, own_sense, own, in_blocks, pick, calls_of, answers_to, Agreement}
use Rattle.model.proofs.Rows.{same_refl, same_sym, same_trans, same_reading, same_writing, same_written, same_apart}
use Rattle.model.proofs.Acts.{AllWithin, Agree, act_local, act_frame, act_size, act_within, Guarded, guarded_fenced, act_guarded}

abbrev other : Who → Who
other A = B
other B = A

and_right : (x y : Bool) → (x && y) ≡ true → y ≡ true
and_right true y e = e
and_right false y e = absurd (false≢true e)

and_not : (x y : Bool) → (x && y) ≡ false → x ≡ true → y ≡ true → ⊥
and_not true y e f g = true≢false (sym g ∙ e)
and_not false y e f g = false≢true f

pub written_size : (c : Row) (at w : ℕ) → (written c at (word w)).size ≡ c.size
written_size c at w = cond_both (ltb at c.size) _ _ (λ (d : Row). d.size ≡ c.size) (λ t. refl) (λ t. refl)

module _ (who : Who) (mine : ℕ → Bool) (n : ℕ) where
  -- what a fair past keeps of a machine
  record Sound (s : State) : Type 0 where
    size : s.cells.size ≡ n
    within : AllWithin mine (user_of who s)
    guest : Guarded mine (user_of (other who) s)

module _ (mine : ℕ → Bool) (n : ℕ) where
  -- ---- a fair call keeps a machine sound
  kept : (who : Who) (s : State) → Sound who mine n s → (k : Sense) → FairSense who mine n k → Sound who mine n (carried s k).1
  kept A s i (of A d) f = record { size = act_size A s.a s.cells d ∙ i.size; within = act_within mine A s.a s.cells n i.size i.within d f; guest = i.guest }
  kept A s i (of B d) f = record { size = act_size B s.b s.cells d ∙ i.size; within = i.within; guest = act_guarded mine B s.b s.cells n i.size i.guest d f }
  kept B s i (of A d) f = record { size = act_size A s.a s.cells d ∙ i.size; within = i.within; guest = act_guarded mine A s.a s.cells n i.size i.guest d f }
  kept B s i (of B d) f = record { size = act_size B s.b s.cells d ∙ i.size; within = act_within mine B s.b s.cells n i.size i.within d f; guest = i.guest }
  kept A s i (poke at w) f = record { size = written_size s.cells at w ∙ i.size; within = i.within; guest = i.guest }
  kept B s i (poke at w) f = record { size = written_size s.cells at w ∙ i.size; within = i.within; guest = i.guest }
  kept who s i (peek at) f = i
  kept who s i wordless f = i

  -- ---- a call of the user's on two machines that are alike to it
  abbrev Matched : Who → Answer × State → Answer × State → Type 0
  Matched who x y = (x.0 ≡ y.0) × Alike who mine x.1 y.1

  own_act : (who : Who) (c d : Row) (u v : User) → u ≡ v → AllWithin mine u → Same mine c d → (k : Deed) → Agree mine (act who c u k) (act who d v k)
  own_act who c d u v e i s k = subst (λ (w : User). Agree mine (act who c u k) (act who d w k)) e (act_local mine who u i c d s k)

  own_call : (who : Who) (s t : State) → Sound who mine n s → Alike who mine s t → (k : Sense) → own_sense who mine n k ≡ true → Matched who (carried s k) (carried t k)
  own_call A s t i al (of A d) o =
      let x = own_act A s.cells t.cells s.a t.a al.user i.within al.memory d in
      (x.0, record { user = x.1; memory = x.2 })
  own_call A s t i al (of B d) o = absurd (false≢true o)
  own_call B s t i al (of A d) o = absurd (false≢true o)
  own_call B s t i al (of B d) o =
      let x = own_act B s.cells t.cells s.b t.b al.user i.within al.memory d in
      (x.0, record { user = x.1; memory = x.2 })
  own_call A s t i al (poke at w) o = (ap after_write (same_writing at al.memory), record { user = al.user; memory = same_written at (word w) al.memory })
  own_call B s t i al (poke at w) o = (ap after_write (same_writing at al.memory), record { user = al.user; memory = same_written at (word w) al.memory })
  own_call who s t i al (peek at) o = (ap after_read (same_reading at (and_right _ _ o) al.memory), al)
  own_call who s t i al wordless o = absurd (false≢true o)

  -- ---- any other call leaves the machine alike to the user
  poked_apart : (s : State) → s.cells.size ≡ n → (at w : ℕ) → in_blocks mine n at ≡ false → Same mine s.cells (written s.cells at (word w))
  poked_apart s e at w o = same_apart at (word w) (λ l m. and_not (ltb at n) (mine (at / 1024)) o (lt-ltb at n (subst (λ (k : ℕ). at < k) e l)) m)

  alike_refl : (who : Who) (s : State) → Alike who mine s s
  alike_refl who s = record { user = refl; memory = same_refl }

  other_call : (who : Who) (s : State) → Sound who mine n s → (k : Sense) → own_sense who mine n k ≡ false → Alike who mine s (carried s k).1
  other_call A s i (of A d) o = absurd (true≢false o)
  other_call A s i (of B d) o = record { user = refl; memory = act_frame mine B s.b (guarded_fenced mine s.b i.guest) s.cells d }
  other_call B s i (of A d) o = record { user = refl; memory = act_frame mine A s.a (guarded_fenced mine s.a i.guest) s.cells d }
  other_call B s i (of B d) o = absurd (true≢false o)
  other_call A s i (poke at w) o = record { user = refl; memory = poked_apart s i.size at w o }
  other_call B s i (poke at w) o = record { user = refl; memory = poked_apart s i.size at w o }
  other_call who s i (peek at) o = alike_refl who s
  other_call who s i wordless o = alike_refl who s

module _ (who : Who) (mine : ℕ → Bool) (n : ℕ) where
  alike_back : {s s' t : State} → Alike who mine s s' → Alike who mine s t → Alike who mine s' t
  alike_back h g = record { user = sym h.user ∙ g.user; memory = same_trans (same_sym h.memory) g.memory }

  alike_join : {s t u : State} → Alike who mine s u → Alike who mine t u → Alike who mine s t
  alike_join h g = record { user = h.user ∙ sym g.user; memory = same_trans h.memory (same_sym g.memory) }

  -- ---- a past against the user's own calls, carried out alone
  abbrev Alone : List Call → State → List Call → State → Type 0
  Alone p s q t = (answers_to who mine n p (replay s p).0 ≡ (replay t q).0) × Alike who mine (replay s p).1 (replay t q).1

  alone : (p : List Call) (s t : State) → Sound who mine n s → Sound who mine n t → Alike who mine s t → Fair who mine n p → Alone p s (calls_of who mine n p) t
  alone [] s t i j al f = (refl, al)
  alone (k ∷ ks) s t i j al f =
      go (own who mine n k) refl
      (λ t' j' al'. alone ks (call s k).1 t' (kept mine n who s i (sense k) f.0) j' al' f.1)
    where
      go : (b : Bool) → own who mine n k ≡ b →
          ((t' : State) → Sound who mine n t' → Alike who mine (call s k).1 t' → Alone ks (call s k).1 (calls_of who mine n ks) t') →
          (pick b (call s k).0 (answers_to who mine n ks (replay (call s k).1 ks).0) ≡ (replay t (pick b k (calls_of who mine n ks))).0)
          × Alike who mine (replay (call s k).1 ks).1 (replay t (pick b k (calls_of who mine n ks))).1
      go true e h =
          let m = own_call mine n who s t i al (sense k) e in
          let r = h (call t k).1 (kept mine n who t j (sense k) f.0) m.1 in
          (ap₂ ◌∷◌ m.0 r.0, r.1)
      go false e h = h t j (alike_back (other_call mine n who s i (sense k) e) al)

-- a new machine is sound
pub each_none : {X : Type 0} (P : X → Type 0) (x : X) → P x → (m i : ℕ) → P (get_or (replicate m x) i x)
each_none P x h zero i = h
each_none P x h (suc m) zero = h
each_none P x h (suc m) (suc i) = each_none P x h m i

new_sound : (who : Who) (mine : ℕ → Bool) (c : Row) (n : ℕ) → c.size ≡ n → Sound who mine n (fresh c)
new_sound A mine c n e = record { size = e; within = each_none (Within mine) None tt 32; guest = record { fenced = each_none (Fenced mine true) None tt 32; guard = refl } }
new_sound B mine c n e = record { size = e; within = each_none (Within mine) None tt 32; guest = record { fenced = each_none (Fenced mine true) None tt 32; guard = refl } }

new_alike : (who : Who) (mine : ℕ → Bool) (c d : Row) → Same mine c d → Alike who mine (fresh d) (fresh c)
new_alike A mine c d s = record { user = refl; memory = same_sym s }
new_alike B mine c d s = record { user = refl; memory = same_sym s }

pub agreement : (s t : State) → Agreement s t
agreement s t who mine c d p q xs ys past past' same fair fair' eq =
    let n : ℕ = c.size in
    let fair_c : Sound who mine n (fresh c) = new_sound who mine c n refl in
    let one = alone who mine n p (fresh c) (fresh c) fair_c fair_c (new_alike who mine c c same_refl) fair in
    let two = alone who mine n q (fresh d) (fresh c) (new_sound who mine d n (sym same.size)) fair_c (new_alike who mine c d same) fair' in
    let left = subst (λ (k : List Call). Alike who mine (replay (fresh c) p).1 (replay (fresh c) k).1) eq one.1 in (
      ap (answers_to who mine n p) past.answers ∙ (one.0 ∙ (ap (λ (k : List Call). (replay (fresh c) k).0) eq ∙ (sym two.0 ∙ sym (ap (answers_to who mine n q) past'.answers)))),
      subst₂ (λ (x y : State). Alike who mine x y) (sym past.state) (sym past'.state) (alike_join who mine n left two.1),
    )
