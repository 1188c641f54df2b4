-- The tests of equality that go part by part are right.
use Rattle.std.proofs.Common.{not, ◌≡◌, Bool, true, false, Some, None, Option, refl, ap}
use Rattle.std.specs.Bool.{Decides}
use Rattle.std.specs.Cmp.{unsigned_Decides, booleans_Decides}
use Rattle.std.specs.Cmp.Lexicographic.{pointwise_decides}
use Rattle.std.specs.Option.{option_eq}
use Rattle.std.proofs.lemmas.Bool.Decides.{Decides-and, Decides-like}
use Rattle.memory.specs.contracts.fault.MemoryFaultPartialEq
use Rattle.memory.specs.declared.fault.MemoryFault.{MemoryFault}
use Rattle.memory.specs.declared.fault.MemoryFault.TheVariants.{Range, Spoiled}
use Rattle.model.specs.contracts.fault.LocatedPartialEq
use Rattle.model.specs.contracts.fault.FaultPartialEq
use Rattle.model.specs.contracts.fault.MapFaultPartialEq
use Rattle.model.specs.contracts.stop.StopPartialEq
use Rattle.model.specs.contracts.user.KindPartialEq
use Rattle.model.specs.declared.fault.Fault.{Fault}
use Rattle.model.specs.declared.fault.Fault.TheVariants.{Map, Chain, Device, Stack, Code, Execute}
use Rattle.model.specs.declared.fault.Located.{Located}
use Rattle.model.specs.declared.fault.MapFault.{MapFault}
use Rattle.model.specs.declared.fault.MapFault.TheVariants.{Validity, Protected, Memory}
use Rattle.model.specs.declared.stop.Stop.{Stop}
use Rattle.model.specs.declared.stop.Stop.TheVariants.{Spent, Call, Faulted}
use Rattle.model.specs.declared.user.Kind.{Kind}
use Rattle.model.specs.declared.user.Kind.TheVariants.{Held, Ready}
use Rattle.model.specs.declared.user.Page.{Page}
use Rattle.model.specs.declared.user.Registers.{Registers}
use Rattle.model.specs.declared.user.Switches.{Switches}
use Rattle.model.specs.declared.user.UserMap.{UserMap}
use Rattle.model.specs.Equality.{registers_eq, page_eq, switches_eq, map_eq}

option_decides : {A : Type 0} {E : A → A → Bool} → ((x y : A) → Decides (E x y) (x ≡ y)) → (o p : Option A) → Decides (option_eq E o p) (o ≡ p)
option_decides d None None = (λ e. refl, λ e. refl)
option_decides d None (Some y) = (λ e. absurd (cc e), λ e. absurd (cc e))
option_decides d (Some x) None = (λ e. absurd (cc e), λ e. absurd (cc e))
option_decides d (Some x) (Some y) = Decides-like _ (λ e. ap Some e) (λ e. cc e) (d x y)

pub registers_decides : (x y : Registers) → Decides (registers_eq x y) (x ≡ y)
registers_decides x y =
    Decides-like _
    (λ p. λ i. record { ac = p.0 i; carry = p.1.0 i; pc = p.1.1 i })
    (λ e. (ap (λ (r : Registers). r.ac) e, (ap (λ (r : Registers). r.carry) e, ap (λ (r : Registers). r.pc) e)))
    (Decides-and _ _ (pointwise_decides unsigned_Decides x.ac y.ac) (Decides-and _ _ (booleans_Decides x.carry y.carry) (unsigned_Decides x.pc y.pc)))

pub page_decides : (x y : Page) → Decides (page_eq x y) (x ≡ y)
page_decides x y =
    Decides-like _
    (λ p. λ i. record { block = p.0 i; protected = p.1 i })
    (λ e. (ap (λ (r : Page). r.block) e, ap (λ (r : Page). r.protected) e))
    (Decides-and _ _ (unsigned_Decides x.block y.block) (booleans_Decides x.protected y.protected))

pub switches_decides : (x y : Switches) → Decides (switches_eq x y) (x ≡ y)
switches_decides x y =
    Decides-like _
    (λ p. λ i. record { lef = p.0 i; write = p.1.0 i; indirect = p.1.1 i })
    (λ e. (ap (λ (r : Switches). r.lef) e, (ap (λ (r : Switches). r.write) e, ap (λ (r : Switches). r.indirect) e)))
    (Decides-and _ _ (booleans_Decides x.lef y.lef) (Decides-and _ _ (booleans_Decides x.write y.write) (booleans_Decides x.indirect y.indirect)))

pub map_decides : (x y : UserMap) → Decides (map_eq x y) (x ≡ y)
map_decides x y =
    Decides-like _
    (λ p. λ i. record { entries = p.0 i; switches = p.1 i })
    (λ e. (ap (λ (r : UserMap). r.entries) e, ap (λ (r : UserMap). r.switches) e))
    (Decides-and _ _ (pointwise_decides (option_decides page_decides) x.entries y.entries) (switches_decides x.switches y.switches))

-- ---- the tests that a derive makes

pub kind_decides : (x y : Kind) → Decides ((KindPartialEq.TheImpl.ghosts).eq x y) (x ≡ y)
kind_decides Held Held = (λ e. refl, λ e. refl)
kind_decides Ready Ready = (λ e. refl, λ e. refl)
kind_decides x y = (λ e. absurd (cc e), λ e. absurd (cc e))

memory_fault_decides : (x y : MemoryFault) → Decides ((MemoryFaultPartialEq.TheImpl.ghosts).eq x y) (x ≡ y)
memory_fault_decides Range Range = (λ e. refl, λ e. refl)
memory_fault_decides Spoiled Spoiled = (λ e. refl, λ e. refl)
memory_fault_decides x y = (λ e. absurd (cc e), λ e. absurd (cc e))

located_decides : (x y : Located) → Decides ((LocatedPartialEq.TheImpl.ghosts).eq x y) (x ≡ y)
located_decides x y =
    Decides-like _
    (λ p. λ i. record { cause = p.0 i; physical = p.1.0 i; logical = p.1.1 i })
    (λ e. (ap (λ (l : Located). l.cause) e, (ap (λ (l : Located). l.physical) e, ap (λ (l : Located). l.logical) e)))
    (Decides-and _ _ (memory_fault_decides x.cause y.cause) (Decides-and _ _ (unsigned_Decides x.physical y.physical) (unsigned_Decides x.logical y.logical)))

map_fault_decides : (x y : MapFault) → Decides ((MapFaultPartialEq.TheImpl.ghosts).eq x y) (x ≡ y)
map_fault_decides (Validity a) (Validity b) = Decides-like _ (λ e. ap Validity e) (λ e. cc e) (unsigned_Decides a b)
map_fault_decides (Protected a) (Protected b) = Decides-like _ (λ e. ap Protected e) (λ e. cc e) (unsigned_Decides a b)
map_fault_decides (Memory a) (Memory b) = Decides-like _ (λ e. ap Memory e) (λ e. cc e) (located_decides a b)
map_fault_decides x y = (λ e. absurd (cc e), λ e. absurd (cc e))

fault_decides : (x y : Fault) → Decides ((FaultPartialEq.TheImpl.ghosts).eq x y) (x ≡ y)
fault_decides (Map a) (Map b) = Decides-like _ (λ e. ap Map e) (λ e. cc e) (map_fault_decides a b)
fault_decides (Chain a) (Chain b) = Decides-like _ (λ e. ap Chain e) (λ e. cc e) (unsigned_Decides a b)
fault_decides Device Device = (λ e. refl, λ e. refl)
fault_decides Stack Stack = (λ e. refl, λ e. refl)
fault_decides Code Code = (λ e. refl, λ e. refl)
fault_decides Execute Execute = (λ e. refl, λ e. refl)
fault_decides x y = (λ e. absurd (cc e), λ e. absurd (cc e))

stop_decides : (x y : Stop) → Decides ((StopPartialEq.TheImpl.ghosts).eq x y) (x ≡ y)
stop_decides (Spent a) (Spent b) = Decides-like _ (λ e. ap Spent e) (λ e. cc e) (unsigned_Decides a b)
stop_decides (Call a w) (Call b v) =
    Decides-like _ (λ p. λ i. Call (p.0 i) (p.1 i)) (λ e. (cc e, cc e)) (Decides-and _ _ (unsigned_Decides a b) (unsigned_Decides w v))
stop_decides (Faulted a w f) (Faulted b v g) =
    Decides-like _
    (λ p. λ i. Faulted (p.0 i) (p.1.0 i) (p.1.1 i))
    (λ e. (cc e, (cc e, cc e)))
    (Decides-and _ _ (unsigned_Decides a b) (Decides-and _ _ (unsigned_Decides w v) (fault_decides f g)))
stop_decides x y = (λ e. absurd (cc e), λ e. absurd (cc e))

pub latest_decides : (x y : Option Stop) → Decides (option_eq (λ (s t : Stop). (StopPartialEq.TheImpl.ghosts).eq s t) x y) (x ≡ y)
latest_decides = option_decides stop_decides

-- ---- what an arm of `if x != y` knows

pub not_differing : {P : Type 0} {e r : Bool} → Decides e P → r ≡ not e → r ≡ false → P
not_differing {e = true} d is f = d.0 refl
not_differing {e = false} d is f = absurd (cc (is, f))

pub differing : {P : Type 0} {e r : Bool} → Decides e P → r ≡ not e → r ≡ true → P → ⊥
differing {e = e} d is t p = let one : e ≡ true = d.1 p in cc (is, t, one)
