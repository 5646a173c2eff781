use Rattle.std.proofs.Common.{◌≡◌, ◌++◌, take}
use Rattle.p3_flat.proofs.splitting.push_copies.Given as goal

-- the forms passed stand there once more
abbrev pub invariant-loop-form : goal.invariant-loop-form
invariant-loop-form l = l.forms.items ≡ l.fn.forms.items ++ take l.form-index l.more
