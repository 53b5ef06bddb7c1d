-- Some frames are done.
use Rattle.tray.proofs.RunningLaws.{Running}
use Rattle.tray.proofs.run.run_frames.Given as goal

abbrev pub invariant-loop-frames : goal.invariant-loop-frames
invariant-loop-frames l = Running l.tray l.initial.answers l.space l.hints l.answers l.frames l.records
