-- Each call against the rules.
use Rattle.std.proofs.Common.{◌≡◌, refl, ap, ◌∙◌, subst}
use Rattle.memory.specs.Cells.{Row}
use Rattle.model.specs.declared.denial.Denial.TheVariants as denial
use Rattle.model.specs.declared.user.User.{User}
use Rattle.model.specs.declared.user.Who.{Who}
use Rattle.model.specs.declared.user.Who.TheVariants.{A, B}
use Rattle.model.specs.Machine.{State, Answer, denied, Call, Deed, of, sense, act, carried, show, shown}
use Rattle.model.specs.Laws.{Did, Acts}
use Rattle.model.proofs.Pasts.{did_sense}
use Rattle.machine.specs.declared.users.Users.{Users}
use Rattle.machine.specs.Users.{user_in, with_user}

-- a user's deed, on the record of that user
pub user_did : (us : Users) (c d : Row) (k : Call) (who : Who) (e : Deed) (x : Answer) (u v : User) → of who e ≡ sense k → u ≡ user_in who us → Acts (act who c u e) x v d →
    Did (record { cells = c; a = us.a; b = us.b }) k x (record { cells = d; a = (with_user who us v).a; b = (with_user who us v).b })
user_did us c d k A e x u v h i acts =
    let y = subst (λ (w : User). Acts (act A c w e) x v d) i acts in
    did_sense _ k (of A e) x _ h y.answer (λ j. record { cells = y.cells j; a = y.user j; b = us.b })
user_did us c d k B e x u v h i acts =
    let y = subst (λ (w : User). Acts (act B c w e) x v d) i acts in
    did_sense _ k (of B e) x _ h y.answer (λ j. record { cells = y.cells j; a = us.a; b = y.user j })

-- to show a user changes nothing
pub show_did : (us : Users) (c : Row) (who : Who) (u : User) (x : Answer) → u ≡ user_in who us → x ≡ shown u.registers u.kind u.latest →
    let s : State = record { cells = c; a = us.a; b = us.b } in Did s (show who) x s
show_did us c A u x i e = record { answer = e ∙ ap (λ (w : User). shown w.registers w.kind w.latest) i; after = refl }
show_did us c B u x i e = record { answer = e ∙ ap (λ (w : User). shown w.registers w.kind w.latest) i; after = refl }

-- a status word with an option that is not there is denied to either user
pub unlisted : (s : State) (who : Who) → carried s (of who Deed.unlisted) ≡ (denied denial.BadOption, s)
unlisted s A = refl
unlisted s B = refl
