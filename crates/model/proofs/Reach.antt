-- A step reads only cells that the map reaches, and writes only cells that it reaches unprotected.
use Rattle.std.proofs.Common.{◌≡◌, ℕ, Bool, cond, ◌&&◌, eqb, ltb, Some, None, Ok, Err, Option, refl, ap, ◌∙◌, subst}
use Rattle.memory.specs.Cells.{Cell, Row, word}
use Rattle.model.specs.declared.steps.Outcome.{Outcome}
use Rattle.model.specs.declared.steps.Outcome.TheVariants.{Next, Called}
use Rattle.model.specs.declared.steps.Turn.{Turn}
use Rattle.model.specs.declared.user.Page.{Page}
use Rattle.model.specs.declared.user.Registers.{Registers}
use Rattle.model.specs.declared.user.UserMap.{UserMap}
use Rattle.model.specs.Faults.{raised, from_program}
use Rattle.model.specs.Access.{Access, ret, halt, reading, writing, ◌>>=◌, page_at, placed, Done, write_at, written_at, fetching, putting, onward, perform}
use Rattle.model.specs.Step.{instruction}
use Rattle.model.specs.Run.{settle, turned, with_word, executed}
use Rattle.model.specs.Programs.{Writable, EqualInReach, ReadsInReach, WritesInReach}
use Rattle.model.proofs.Rows.{cond_rel}
use Rattle.model.proofs.Loads.{load_same, store_keeps}

module _ (m : UserMap) where
  -- ---- reads: over cells that are equal in reach, the same answer, and cells that are equal in reach
  data Twin {X : Type 0} : X × Row → X × Row → Type 0 where
    twin : (x : X) {c d : Row} → EqualInReach m c d → Twin (x, c) (x, d)

  abbrev Alike : Turn × Registers × Row → Turn × Registers × Row → Type 0
  Alike s t = (s.0 ≡ t.0) × (s.1 ≡ t.1) × EqualInReach m s.2 t.2

  module _ {c d : Row} (e : EqualInReach m c d) where
    write_alike : (on : Bool) (a : ℕ) (o : Option Page) → write_at o on c a ≡ write_at o on d a
    write_alike on a None = refl
    write_alike on a (Some p) = ap (λ (s : ℕ). write_at (Some p) on (record { size = s; at = c.at }) a) e.0

    written_alike : (on : Bool) (a w : ℕ) (o : Option Page) → EqualInReach m (written_at o on c a w) (written_at o on d a w)
    written_alike on a w None = e
    written_alike on a w (Some p) =
        cond_rel (EqualInReach m) (on && p.protected) (on && p.protected) refl (λ t. e)
        (cond_rel (EqualInReach m) (ltb (placed p a) c.size) (ltb (placed p a) d.size) (ap (λ (s : ℕ). ltb (placed p a) s) e.0)
        (λ t. (e.0, λ x h. ap (λ (y : Cell). cond (eqb x (placed p a)) (word w) y) (e.1 x h))) e)

  twins : {X : Type 0} {x y : X} {c d : Row} → x ≡ y → EqualInReach m c d → Twin (x, c) (y, d)
  twins {X} {x} {y} {c} {d} h e = subst (λ (z : X). Twin (x, c) (z, d)) h (twin x e)

  onward_twin : {X Y : Type 0} {p q : Done X} → Twin p q → (k : X → Row → Done Y) →
      ((x : X) (c d : Row) → EqualInReach m c d → Twin (k x c) (k x d)) → Twin (onward p k) (onward q k)
  onward_twin (twin (Ok x) {c} {d} e) k h = h x c d e
  onward_twin (twin (Err z) e) k h = twin (Err z) e

  perform_twin : {X : Type 0} (t : Access X) (c d : Row) → EqualInReach m c d → Twin (perform m c t) (perform m d t)
  unfolding fetching putting
  perform_twin (ret x) c d e = twin (Ok x) e
  perform_twin (halt z) c d e = twin (Err (from_program z)) e
  perform_twin (reading a) c d e = twins (ap raised (load_same m e.0 a (λ x h. e.1 x (a, h)))) e
  perform_twin (writing a w) c d e =
      let on = m.switches.write in twins (ap raised (write_alike e on a (page_at m a))) (written_alike e on a w (page_at m a))
  perform_twin (t >>= f) c d e = onward_twin (perform_twin t c d e) (λ x cs. perform m cs (f x)) (λ x c' d' e'. perform_twin (f x) c' d' e')

  turned_alike : (r : Registers) (w : ℕ) {p q : Done (Outcome × Registers)} → Twin p q →
      Alike (turned r.pc w (settle r p)) (turned r.pc w (settle r q))
  turned_alike r w (twin (Ok (Next, q)) e) = (refl, refl, e)
  turned_alike r w (twin (Ok (Called, q)) e) = (refl, refl, e)
  turned_alike r w (twin (Err z) e) = (refl, refl, e)

  word_alike : (r : Registers) {p q : Done ℕ} → Twin p q → (k : ℕ → Row → Turn × Registers × Row) →
      ((w : ℕ) (c d : Row) → EqualInReach m c d → Alike (k w c) (k w d)) → Alike (with_word r p k) (with_word r q k)
  word_alike r (twin (Ok w) {c} {d} e) k h = h w c d e
  word_alike r (twin (Err z) e) k h = (refl, refl, e)

-- ---- writes: a cell that is not writable is kept
module _ (m : UserMap) (x : ℕ) (out : Writable m x → ⊥) where
  onward_keeps : {X Y : Type 0} (c : Row) (p : Done X) → p.1.at x ≡ c.at x → (k : X → Row → Done Y) →
      ((z : X) (d : Row) → (k z d).1.at x ≡ d.at x) → (onward p k).1.at x ≡ c.at x
  onward_keeps c (Ok z, d) e k h = h z d ∙ e
  onward_keeps c (Err z, d) e k h = e

  perform_keeps : {X : Type 0} (t : Access X) (c : Row) → (perform m c t).1.at x ≡ c.at x
  unfolding fetching putting
  perform_keeps (ret z) c = refl
  perform_keeps (halt z) c = refl
  perform_keeps (reading a) c = refl
  perform_keeps (writing a w) c = store_keeps m c a w x (λ p h t e. out (a, p, h, t, e))
  perform_keeps (t >>= f) c = onward_keeps c (perform m c t) (perform_keeps t c) (λ z d. perform m d (f z)) (λ z d. perform_keeps (f z) d)

  turned_keeps : (r : Registers) (w : ℕ) (p : Done (Outcome × Registers)) → (turned r.pc w (settle r p)).2.at x ≡ p.1.at x
  turned_keeps r w (Ok (Next, q), d) = refl
  turned_keeps r w (Ok (Called, q), d) = refl
  turned_keeps r w (Err z, d) = refl

  word_keeps : (r : Registers) (c : Row) (p : Done ℕ) → p.1.at x ≡ c.at x → (k : ℕ → Row → Turn × Registers × Row) →
      ((w : ℕ) (d : Row) → (k w d).2.at x ≡ d.at x) → (with_word r p k).2.at x ≡ c.at x
  word_keeps r c (Ok w, d) e k h = h w d ∙ e
  word_keeps r c (Err z, d) e k h = e

-- ---- a step: the fetch, and then whatever the instruction asks
pub reads_in_reach : ReadsInReach
reads_in_reach m r c d e =
    word_alike m r (perform_twin m (reading r.pc) c d e) (executed m r)
    (λ w c' d' e'. turned_alike m r w (perform_twin m (instruction m.switches r w) c' d' e'))

pub writes_in_reach : WritesInReach
writes_in_reach m r c x out =
    word_keeps m x out r c (perform m c (reading r.pc)) (perform_keeps m x out (reading r.pc) c) (executed m r)
    (λ w d. let t = instruction m.switches r w in turned_keeps m x out r w (perform m d t) ∙ perform_keeps m x out t d)
