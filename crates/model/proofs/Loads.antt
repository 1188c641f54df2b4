-- What a load rests on, and what a store leaves as it was.
use Rattle.std.proofs.Common.{◌≡◌, ℕ, false, cond, ◌&&◌, eqb, ltb, Some, None, Err, Option, sym, refl, ap, ◌∙◌, ap₂, eqb-true}
use Rattle.std.proofs.lemmas.Bool.{cond_both}
use Rattle.memory.specs.Cells.{Cell, Row}
use Rattle.memory.specs.Answers as memory
use Rattle.memory.specs.declared.fault.MemoryFault.TheVariants.{Range}
use Rattle.model.specs.declared.user.Page.{Page}
use Rattle.model.specs.declared.user.UserMap.{UserMap}
use Rattle.model.specs.Faults.{located, faulted}
use Rattle.model.specs.Access.{page_at, placed, read_at, written_at, loaded, stored_cells}
use Rattle.model.specs.Programs.{led_by, place, Apart, Kept}
use Rattle.model.proofs.Isolation.{written_size}

-- a load rests on the cell that its address leads to, and on how many cells there are
pub load_same : (m : UserMap) {c d : Row} → c.size ≡ d.size → (a : ℕ) → ((x : ℕ) → place m a ≡ Some x → c.at x ≡ d.at x) →
    loaded m c a ≡ loaded m d a
load_same m {c} {d} s a h = go (page_at m a) refl
  where
    go : (o : Option Page) → page_at m a ≡ o → read_at o c a ≡ read_at o d a
    go None e = refl
    go (Some p) e =
        ap₂ (λ (n : ℕ) (x : Cell). faulted (located (cond (ltb (placed p a) n) (memory.told x) (Err Range)) (placed p a) a))
        s (h (placed p a) (ap (λ o. led_by o a) e))

-- a cell that a store does not lead to, or at which it is refused, is kept
pub store_keeps : (m : UserMap) (cs : Row) (a w x : ℕ) →
    ((p : Page) → page_at m a ≡ Some p → (m.switches.write && p.protected) ≡ false → placed p a ≡ x → ⊥) →
    (stored_cells m cs a w).at x ≡ cs.at x
store_keeps m cs a w x out = go (page_at m a) refl
  where
    go : (o : Option Page) → page_at m a ≡ o → (written_at o m.switches.write cs a w).at x ≡ cs.at x
    go None h = refl
    go (Some p) h =
        cond_both (m.switches.write && p.protected) _ _ (λ (c : Row). c.at x ≡ cs.at x) (λ t. refl)
        (λ t.
        cond_both (ltb (placed p a) cs.size) _ _ (λ (c : Row). c.at x ≡ cs.at x)
        (λ l. cond_both (eqb x (placed p a)) _ _ (λ (y : Cell). y ≡ cs.at x) (λ e. absurd (out p h t (sym (eqb-true x (placed p a) e)))) (λ e. refl))
        (λ l. refl))

-- a store at another place changes no load
pub load_kept : (m : UserMap) (cs : Row) (a b v : ℕ) → Apart m a b → Kept m cs (stored_cells m cs b v) a
load_kept m cs a b v out =
    load_same m (size (page_at m b)) a (λ x h. store_keeps m cs b v x (λ p e t g. out (h ∙ sym (ap (λ o. led_by o b) e ∙ ap Some g))))
  where
    size : (o : Option Page) → (written_at o m.switches.write cs b v).size ≡ cs.size
    size None = refl
    size (Some p) = cond_both (m.switches.write && p.protected) _ _ (λ (d : Row). d.size ≡ cs.size) (λ t. refl) (λ t. written_size cs (placed p b) v)
