-- Only line P3 makes an announcement active: a process does not announce its operation twice.
use Prim.Native.Nat.{ℕ}
use mathlib.Core.Path.{◌≡◌, refl}
use mathlib.Core.Bool.{true, false, true≢false}
use mathlib.Core.Logic.{◌≢◌}
use mathlib.Core.List.{List}
use lib.ListN.{get_or, set}
use Rattle.construction.specs.Types.{Gate, Active, Yield, Announcement, AnnouncementAccess, Access, Control, Operation, Card}
use Rattle.construction.specs.Cells.{open_announcement, same_announcement, swap_announcement}
use Rattle.construction.specs.Parts.{announcement_at, local_at}
use Rattle.construction.specs.Machine.{access_announcement, perform, advance}
use Rattle.construction.proofs.Basics.{on_test, set_keeps, active_not_done, active_not_exit}
use Rattle.construction.proofs.Invariant.Stages.{is_announced, announces, stage, is_announcing, proceeds}

-- a flag that is active after was active before
abbrev pub ActiveBefore : Card → ℕ → Card → Type 0
ActiveBefore c i d = (announcement_at d i).flag ≡ Active → (announcement_at c i).flag ≡ Active

set_active :
    (l : List Announcement) (m j : ℕ) (x : Announcement) → (x.flag ≡ Active → (get_or l m open_announcement).flag ≡ Active) →
    (get_or (set l m x) j open_announcement).flag ≡ Active → (get_or l j open_announcement).flag ≡ Active
set_active l m j x f =
    set_keeps (λ a. a.flag ≡ Active → (get_or l j open_announcement).flag ≡ Active) l m j x open_announcement (λ e. rw e f) (λ h. h)

swap_active :
    (cell expected new : Announcement) → new.flag ≢ Active → (swap_announcement cell expected new).cell.flag ≡ Active → cell.flag ≡ Active
unfolding swap_announcement
swap_active cell expected new ne =
    on_test (λ (x : Announcement). x.flag ≡ Active → cell.flag ≡ Active) (same_announcement cell expected) (λ _ h. absurd (ne h)) (λ _ h. h)

cell_active :
    (a : AnnouncementAccess) → announces a ≡ false → (m : ℕ) (cell : Announcement) (o : Operation) (g : Gate) (r : Announcement)
    (outputs : Yield) (t : Control) → (access_announcement a m cell o g r outputs t).cell.flag ≡ Active → cell.flag ≡ Active
unfolding access_announcement
cell_active AnnouncementAccess.Announce e m cell o g r outputs t = absurd (true≢false e)
cell_active AnnouncementAccess.Withdraw e m cell o g r outputs t = swap_active cell _ _ (λ z. active_not_exit z refl)
cell_active (AnnouncementAccess.ReadOwn done active exit) e m cell o g r outputs t = λ h. h
cell_active AnnouncementAccess.ReadFirst e m cell o g r outputs t = λ h. h
cell_active (AnnouncementAccess.Finish flag next) e m cell o g r outputs t = swap_active cell _ _ (λ z. active_not_done z refl)

-- every access but that of P3
pub access_active : (a : Access) (c : Card) (i : ℕ) → is_announcing a ≡ false → ActiveBefore c i (perform a c i).card
unfolding perform
access_active Access.None c i e = λ h. h
access_active (Access.Gate a) c i e = λ h. h
access_active (Access.Announcement a) c i e = set_active c.announcements _ i _ (cell_active a e _ _ _ _ _ _ _)
access_active Access.Help c i e = set_active c.announcements _ i _ (λ h. h)
access_active Access.Note c i e = λ h. h
access_active Access.Write c i e = λ h. h

-- a process that has announced its operation does not announce again
pub active_before :
    (c : Card) (i : ℕ) → is_announced (local_at c i).control.place ≡ true → (announcement_at (advance c i) i).flag ≡ Active →
    (announcement_at c i).flag ≡ Active
unfolding advance
active_before c i t = access_active _ c i (proceeds (stage (local_at c i).control.place) t (local_at c i).exit).0
