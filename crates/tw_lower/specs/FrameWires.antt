-- The frame that the code holds.
use Rattle.tw_frames.specs.Found.{setting_of}
use Rattle.tw_frames.specs.Frames.{Frame}
use Rattle.tw_lower.specs.declared.frame.FrameWires.{FrameWires}
use Rattle.tw_lower.specs.NameWires.{frame_with, wires_of}

abbrev pub plain_frame : FrameWires → Frame
plain_frame held = frame_with (setting_of held.body) held.body.fun (wires_of held.names) held.ifs
