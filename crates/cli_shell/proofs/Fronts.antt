-- Reads that end before the source does.
use Rattle.std.proofs.Common.{◌≡◌, ℕ, ◌≤◌, ◌⊎◌, inl, inr, List, ◌++◌, arith}
use Rattle.std.specs.Io.KnownBytes.{Consumes}
use Rattle.std.proofs.KnownBytes.{Consumes-trans}
use Rattle.cli_shell.specs.Source.{SourceView, Rose}
use Rattle.cli_shell.specs.Streams.{Took, Unread}
use Rattle.cli_shell.specs.declared.status.ShellStatus.{ShellStatus}
use Rattle.cli_shell.specs.declared.status.ShellStatus.TheVariants as shells

rose_more : (first mid after : ℕ) → first ≤ mid → Rose mid after → Rose first after
rose_more first mid after n (inl k) = inl (omega (arith, n, k))
rose_more first mid after n (inr k) = inr k

took_more : (first mid after : SourceView) (bytes : List ℕ) → Consumes first.left mid.left bytes → Took mid after → Took first after
took_more first mid after bytes c (front, k) = (bytes ++ front, Consumes-trans first.left mid.left after.left bytes front c k)

-- a piece that wasn't read, behind bytes that were
pub unread_more : (first mid after : SourceView) (bytes : List ℕ) (e : ShellStatus) → Consumes first.left mid.left bytes → first.faults ≤ mid.faults → Took mid after →
    ((e ≡ shells.OutOfMemory) ⊎ ((e ≡ shells.ReadFault) × Rose mid.faults after.faults)) → Unread e first after
unread_more first mid after bytes e c n t (inl is) = rw is (took_more first mid after bytes c t)
unread_more first mid after bytes e c n t (inr (is, r)) = rw is (took_more first mid after bytes c t, rose_more first.faults mid.faults after.faults n r)
