-- What one call of a user's reads and alters, and what it keeps.
use Rattle.std.proofs.Common.{◌≡◌, ℕ, ◌/◌, ◌<◌, Bool, true, false, ◌&&◌, eqb, ltb, get_or, Some, None, Option, sym, refl, ap, subst, ap₂, ltb-true}
use Rattle.std.proofs.lemmas.Bool.{cond_both}
use mathlib.Core.Bool.{false≢true}
use Rattle.memory.specs.Cells.{Row}
use Rattle.model.specs.declared.user.Kind.{Kind}
use Rattle.model.specs.declared.user.Kind.TheVariants.{Held, Ready}
use Rattle.model.specs.declared.user.Page.{Page}
use Rattle.model.specs.declared.steps.Ran.{Ran}
use Rattle.model.specs.declared.user.Registers.{Registers}
use Rattle.model.specs.declared.user.User.{User}
use Rattle.model.specs.declared.user.Who.{Who}
use Rattle.model.specs.Machine.{ran, Acted, Deed, block, status, unlisted, start, run, show, act, started, run_by, kind_after, rested}
use Rattle.model.specs.Isolation.{Within, Fenced, Same, Owned, Guest}
use Rattle.model.proofs.Rows.{cond_rel, same_refl, each_set}
use Rattle.model.proofs.Locality.{runs_local, runs_frame}

module _ (mine : ℕ → Bool) where
  abbrev pub Agree : Acted → Acted → Type 0
  Agree x y = (x.0 ≡ y.0) × (x.1 ≡ y.1) × Same mine x.2 y.2

  abbrev pub AllWithin : User → Type 0
  AllWithin u = (i : ℕ) → Within mine (get_or u.map.entries i None)

  abbrev pub AllFenced : Bool → User → Type 0
  AllFenced guard u = (i : ℕ) → Fenced mine guard (get_or u.map.entries i None)

  -- ---- locality
  started_local : (k : Kind) (who : Who) (u : User) (c d : Row) → Same mine c d → (r : Registers) → Agree (started k who c u r) (started k who d u r)
  started_local Held who u c d s r = cond_rel Agree (ltb r.pc 32768) (ltb r.pc 32768) refl (λ t. (refl, refl, s)) (refl, refl, s)
  started_local Ready who u c d s r = (refl, refl, s)

  run_local : (k : Kind) (who : Who) (u : User) → AllWithin u → (c d : Row) → Same mine c d → (n : ℕ) → Agree (run_by k who c u n) (run_by k who d u n)
  run_local Held who u i c d s n = (refl, refl, s)
  run_local Ready who u i c d s n =
      let both = runs_local mine n 0 u.map i u.registers c d s in
      (ap (λ (x : Ran). ran x.steps x.stop who (kind_after x.stop)) both.0, ap₂ (rested u) both.0 both.1, both.2)

  pub act_local : (who : Who) (u : User) → AllWithin u → (c d : Row) → Same mine c d → (k : Deed) → Agree (act who c u k) (act who d u k)
  act_local who u i c d s (block l p b) =
      cond_rel Agree (p && eqb b 127) (p && eqb b 127) refl (λ t. (refl, refl, s))
      (cond_rel Agree (ltb b (c.size / 1024)) (ltb b (d.size / 1024)) (ap (λ (n : ℕ). ltb b (n / 1024)) s.size) (λ t. (refl, refl, s)) (refl, refl, s))
  act_local who u i c d s (status w) = (refl, refl, s)
  act_local who u i c d s unlisted = (refl, refl, s)
  act_local who u i c d s (start r) = started_local u.kind who u c d s r
  act_local who u i c d s (run n) = run_local u.kind who u i c d s n
  act_local who u i c d s show = (refl, refl, s)

  -- ---- frame
  started_frame : (k : Kind) (who : Who) (u : User) (c : Row) (r : Registers) → Same mine c (started k who c u r).2
  started_frame Held who u c r = cond_both (ltb r.pc 32768) _ _ (λ (x : Acted). Same mine c x.2) (λ e. same_refl) (λ e. same_refl)
  started_frame Ready who u c r = same_refl

  run_frame : (k : Kind) (who : Who) (u : User) → AllFenced u.map.switches.write u → (c : Row) (n : ℕ) → Same mine c (run_by k who c u n).2
  run_frame Held who u f c n = same_refl
  run_frame Ready who u f c n = runs_frame mine n 0 u.map f u.registers c

  pub act_frame : (who : Who) (u : User) → AllFenced u.map.switches.write u → (c : Row) (k : Deed) → Same mine c (act who c u k).2
  act_frame who u f c (block l p b) =
      let P : Acted → Type 0 = λ x. Same mine c x.2 in
      cond_both (p && eqb b 127) _ _ P (λ e. same_refl) (λ e. cond_both (ltb b (c.size / 1024)) _ _ P (λ e'. same_refl) (λ e'. same_refl))
  act_frame who u f c (status w) = same_refl
  act_frame who u f c unlisted = same_refl
  act_frame who u f c (start r) = started_frame u.kind who u c r
  act_frame who u f c (run n) = run_frame u.kind who u f c n
  act_frame who u f c show = same_refl

-- the number of cells never changes
pub act_size : (who : Who) (u : User) (c : Row) (k : Deed) → (act who c u k).2.size ≡ c.size
act_size who u c k = sym (act_frame (λ n. false) who u (λ i. go (get_or u.map.entries i None)) c k).size
  where
    go : (e : Option Page) → Fenced (λ n. false) u.map.switches.write e
    go None = tt
    go (Some p) = λ m. absurd (false≢true m)

module _ (mine : ℕ → Bool) where
  pub act_within : (who : Who) (u : User) (c : Row) (n : ℕ) → c.size ≡ n → AllWithin mine u → (k : Deed) → Owned mine n k → AllWithin mine (act who c u k).1
  act_within who u c n e h (block l p b) o =
      let P : Acted → Type 0 = λ x. AllWithin mine x.1 in
      cond_both (p && eqb b 127) _ _ P (λ t. each_set (Within mine) u.map.entries None None l tt h)
      (λ t. cond_both (ltb b (c.size / 1024)) _ _ P
      (λ t'. each_set (Within mine) u.map.entries None (Some (record { block = b; protected = p })) l (o (subst (λ (m : ℕ). b < m / 1024) e (ltb-true b (c.size / 1024) t'))) h)
      (λ t'. h))
  act_within who u c n e h (status w) o = h
  act_within who u c n e h unlisted o = h
  act_within who u c n e h (start r) o = go u.kind
    where
      go : (k : Kind) → AllWithin mine (started k who c u r).1
      go Held = cond_both (ltb r.pc 32768) _ _ (λ (x : Acted). AllWithin mine x.1) (λ t. h) (λ t. h)
      go Ready = h
  act_within who u c n e h (run m) o = go u.kind
    where
      go : (k : Kind) → AllWithin mine (run_by k who c u m).1
      go Held = h
      go Ready = h
  act_within who u c n e h show o = h

  -- a guest: its entries fenced, its write protection on
  pub record Guarded (u : User) : Type 0 where
    pub fenced : AllFenced mine true u
    pub guard : u.map.switches.write ≡ true

  pub guarded_fenced : (u : User) → Guarded u → AllFenced mine u.map.switches.write u
  guarded_fenced u g = subst (λ (b : Bool). AllFenced mine b u) (sym g.guard) g.fenced

  pub act_guarded : (who : Who) (u : User) (c : Row) (n : ℕ) → c.size ≡ n → Guarded u → (k : Deed) → Guest mine n k → Guarded (act who c u k).1
  act_guarded who u c n e h (block l p b) o =
      let P : Acted → Type 0 = λ x. Guarded x.1 in
      cond_both (p && eqb b 127) _ _ P
      (λ t. record { fenced = each_set (Fenced mine true) u.map.entries None None l tt h.fenced; guard = h.guard })
      (λ t. cond_both (ltb b (c.size / 1024)) _ _ P
      (λ t'. record { fenced = each_set (Fenced mine true) u.map.entries None (Some (record { block = b; protected = p })) l (o (subst (λ (m : ℕ). b < m / 1024) e (ltb-true b (c.size / 1024) t'))) h.fenced; guard = h.guard })
      (λ t'. h))
  act_guarded who u c n e h (status w) o = record { fenced = h.fenced; guard = o }
  act_guarded who u c n e h unlisted o = h
  act_guarded who u c n e h (start r) o = go u.kind
    where
      go : (k : Kind) → Guarded (started k who c u r).1
      go Held = cond_both (ltb r.pc 32768) _ _ (λ (x : Acted). Guarded x.1) (λ t. record { fenced = h.fenced; guard = h.guard }) (λ t. h)
      go Ready = h
  act_guarded who u c n e h (run m) o = go u.kind
    where
      go : (k : Kind) → Guarded (run_by k who c u m).1
      go Held = h
      go Ready = record { fenced = h.fenced; guard = h.guard }
  act_guarded who u c n e h show o = h
