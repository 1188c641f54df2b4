-- When two of the values that a user has are equal, part by part.
use Rattle.std.specs.Prelude.{Bool, ◌&&◌, ◌==◌, nat_eq}
use Rattle.std.specs.Bool.{beq}
use Rattle.std.specs.Cmp.{IsEquivalence, IsPartialEquivalence, and_equiv, on_equiv, nat_eq_equiv, bool_eq_equiv, partial_equiv_from_equiv}
use Rattle.std.specs.Cmp.Lexicographic.{pointwise, lists_equiv, options_equiv}
use Rattle.std.specs.Option.{option_eq}
use Rattle.model.specs.declared.user.Page.{Page}
use Rattle.model.specs.declared.user.Registers.{Registers}
use Rattle.model.specs.declared.user.Switches.{Switches}
use Rattle.model.specs.declared.user.UserMap.{UserMap}

abbrev pub registers_eq : Registers → Registers → Bool
registers_eq x y = pointwise nat_eq x.ac y.ac && (beq x.carry y.carry && x.pc == y.pc)

abbrev pub page_eq : Page → Page → Bool
page_eq x y = x.block == y.block && beq x.protected y.protected

abbrev pub switches_eq : Switches → Switches → Bool
switches_eq x y = beq x.lef y.lef && (beq x.write y.write && beq x.indirect y.indirect)

abbrev pub map_eq : UserMap → UserMap → Bool
map_eq x y = pointwise (option_eq page_eq) x.entries y.entries && switches_eq x.switches y.switches

-- the test of two maps goes both ways round, and along a chain
page_laws : IsEquivalence page_eq
page_laws = and_equiv (on_equiv (λ (x : Page). x.block) nat_eq_equiv) (on_equiv (λ (x : Page). x.protected) bool_eq_equiv)

switches_laws : IsEquivalence switches_eq
switches_laws =
    and_equiv (on_equiv (λ (x : Switches). x.lef) bool_eq_equiv)
    (and_equiv (on_equiv (λ (x : Switches). x.write) bool_eq_equiv) (on_equiv (λ (x : Switches). x.indirect) bool_eq_equiv))

pub map_laws : IsPartialEquivalence map_eq
map_laws =
    partial_equiv_from_equiv
    (and_equiv (on_equiv (λ (x : UserMap). x.entries) (lists_equiv (options_equiv page_laws))) (on_equiv (λ (x : UserMap). x.switches) switches_laws))
