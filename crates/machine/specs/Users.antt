-- The records of the two users: the one of a user, and what becomes of both where it alone is changed.
use Rattle.std.specs.Borrow.{Lends, MutBor, Fml}
use Rattle.model.specs.declared.user.User.{User}
use Rattle.model.specs.contracts.user.User.{the_row as user_row}
use Rattle.model.specs.declared.user.Who.{Who}
use Rattle.model.specs.declared.user.Who.TheVariants.{A, B}
use Rattle.machine.specs.declared.users.Users.{Users}
use Rattle.machine.specs.contracts.users.Users.{the_row}

abbrev pub user_in : Who → Users → User
user_in A us = us.a
user_in B us = us.b

abbrev pub with_user : Who → Users → User → Users
with_user A us u = record { a = u; b = us.b }
with_user B us u = record { a = us.a; b = u }

-- when r ends, the records are as before, but that user's is the last value behind r
abbrev pub LendsUser : MutBor Users → Who → MutBor User → Fml
LendsUser us who r = Lends the_row user_row us r (with_user who us.now)
