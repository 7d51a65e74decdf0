use Rattle.body_guard.proofs.UploadLemmas.{noted}
use Rattle.body_guard.proofs.upload.note.Goals as goal

pub returns : goal.returns
returns g c = record {
  calls = c.note_event.ensures.calls;
  these = noted _ _ _ _ _ _ c.note_event.ensures.these c.note_end.ensures.start c.note_end.ensures.resolution (rw c.completes.ensures at c.note_end.ensures.complete) c.note_end.ensures.kept;
  made = c.note_event.ensures.made;
}
