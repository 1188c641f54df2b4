-- The kinds of both users after a call: map words leave them.
use Rattle.std.proofs.Common.{◌≡◌, ℕ, ◌/◌, ◌%◌, not, ◌&&◌, ◌||◌, eqb, ltb, refl, ap}
use Rattle.std.proofs.lemmas.Bool.{cond_both}
use Rattle.model.specs.declared.user.Who.{Who}
use Rattle.model.specs.declared.user.Who.TheVariants.{A, B}
use Rattle.model.specs.Machine.{State, user_of, lifted, Acted, Sense, Deed, act, carried, call, map, sense_of_word, bit, user_by_bit}
use Rattle.sheets.specs.Lines.{Told}

abbrev Kept : State → State → Type 0
Kept s t = (t.a.kind ≡ s.a.kind) × (t.b.kind ≡ s.b.kind)

lifted_kept : (who : Who) (s : State) (x : Acted) → x.1.kind ≡ (user_of who s).kind → Kept s (lifted who s x).1
lifted_kept A s x e = (e, refl)
lifted_kept B s x e = (refl, e)

pub map_kept : (s : State) (w : ℕ) → Kept s (call s (map w)).1
unfolding sense_of_word
map_kept s w =
    cond_both (bit w 512) _ _ (λ (x : Sense). Kept s (carried s x).1)
    (λ _.
    let who = user_by_bit (bit w 256) in
    let P : Acted → Type 0 = λ x. x.1.kind ≡ (user_of who s).kind in
    lifted_kept who s _
    (cond_both (bit w 128 && eqb (w % 128) 127) _ _ P (λ _. refl)
    (λ _. cond_both (ltb (w % 128) (s.cells.size / 1024)) _ _ P (λ _. refl) (λ _. refl))))
    (λ _.
    cond_both (bit w 256 || bit w 16384) _ _ (λ (x : Sense). Kept s (carried s x).1) (λ _. (refl, refl))
    (λ _.
    let who = user_by_bit (bit w 8192) in
    let P : Deed → Type 0 = λ d. (act who s.cells (user_of who s) d).1.kind ≡ (user_of who s).kind in
    lifted_kept who s _ (cond_both (bit w 32 || not (eqb (w % 8) 0)) _ _ P (λ _. refl) (λ _. refl))))

-- what comes of a row and the state are those of the rules, and so are the kinds
pub same_kinds : {x y : Told × State} → x ≡ y → Kept y.1 x.1
same_kinds e = (ap (λ (x : Told × State). x.1.a.kind) e, ap (λ (x : Told × State). x.1.b.kind) e)
