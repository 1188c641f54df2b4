-- Laws of programs, above the definitions of the single instructions: what any step can reach, and what runs one after the
-- other come to.
use Rattle.std.specs.Prelude.{◌≡◌, ℕ, false, ◌&&◌, List, [], ◌∷◌, Some, None, Option, sum}
use Rattle.memory.specs.Cells.{Row}
use Rattle.model.specs.declared.stop.Stop.TheVariants.{Spent}
use Rattle.model.specs.declared.user.Page.{Page}
use Rattle.model.specs.declared.user.Registers.{Registers}
use Rattle.model.specs.declared.user.UserMap.{UserMap}
use Rattle.model.specs.Access.{page_at, placed, loaded}
use Rattle.model.specs.Laws.{Completed}
use Rattle.model.specs.Run.{advanced, runs}

-- ---- what a map reaches

-- the physical address that a logical one leads to
abbrev pub led_by : Option Page → ℕ → Option ℕ
led_by None a = None
led_by (Some p) a = Some (placed p a)

abbrev pub place : UserMap → ℕ → Option ℕ
place m a = led_by (page_at m a) a

abbrev pub Reached : UserMap → ℕ → Type 0
Reached m x = (a : ℕ) × (place m a ≡ Some x)

-- by an entry that may be written: it is not protected, or write protection is off
abbrev pub Writable : UserMap → ℕ → Type 0
Writable m x = (a : ℕ) × (p : Page) × (page_at m a ≡ Some p) × ((m.switches.write && p.protected) ≡ false) × (placed p a ≡ x)

abbrev pub EqualInReach : UserMap → Row → Row → Type 0
EqualInReach m c d = (c.size ≡ d.size) × ((x : ℕ) → Reached m x → c.at x ≡ d.at x)

-- a step reads only cells that the map reaches: where these are equal it comes to the same, and leaves them equal
abbrev pub ReadsInReach : Type 0
ReadsInReach = (m : UserMap) (r : Registers) (c d : Row) → EqualInReach m c d →
    let s = advanced m r c in let t = advanced m r d in (s.0 ≡ t.0) × (s.1 ≡ t.1) × EqualInReach m s.2 t.2

-- and it writes only cells that the map reaches unprotected
abbrev pub WritesInReach : Type 0
WritesInReach = (m : UserMap) (r : Registers) (c : Row) (x : ℕ) → (Writable m x → ⊥) → (advanced m r c).2.at x ≡ c.at x

-- ---- words by their logical addresses

-- two addresses lead to different cells
abbrev pub Apart : UserMap → ℕ → ℕ → Type 0
Apart m a b = place m a ≡ place m b → ⊥

-- what a load answers is the same in both
abbrev pub Kept : UserMap → Row → Row → ℕ → Type 0
Kept m cs ds a = loaded m ds a ≡ loaded m cs a

-- ---- a run cut into several

-- runs with those budgets, one directly after the other, each of which ended with its budget spent
pub record SpentTo (m : UserMap) (k : ℕ) (r : Registers) (cs : Row) (Rest : Registers → Row → Type 0) : Type 0 where
  pub registers : Registers
  pub cells : Row
  pub spent : runs k 0 m r cs ≡ (record { steps = k; stop = Spent registers.pc }, registers, cells)
  pub rest : Rest registers cells

abbrev pub CutRun : UserMap → List ℕ → Registers → Row → Registers → Row → Type 0
CutRun m [] r cs q ds = (q ≡ r) × (ds ≡ cs)
CutRun m (k ∷ ks) r cs q ds = SpentTo m k r cs (λ r' cs'. CutRun m ks r' cs' q ds)

-- however a run is cut, it is as many completed steps, one after the other, as all its budgets come to
abbrev pub Cuts : Type 0
Cuts = (m : UserMap) (ks : List ℕ) (r q : Registers) (cs ds : Row) → CutRun m ks r cs q ds → Completed m (sum ks) r cs q ds

-- ---- all of them
pub record Lawful : Type 0 where
  pub reads : ReadsInReach
  pub writes : WritesInReach
  pub cuts : Cuts
